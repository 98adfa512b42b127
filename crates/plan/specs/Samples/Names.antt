-- Names in the order of their bytes (this project's own).
use Rattle.std.specs.Prelude.{ℕ, List, [], ◌∷◌}
use Rattle.std.specs.declared.cmp.Ordering.{Ordering}
use Rattle.std.specs.declared.cmp.Ordering.TheVariants.{Less, Equal, Greater}
use Rattle.jtree.specs.Order.{text_cmp}

-- a name put where it belongs by its bytes, once
abbrev pub put : Ordering → List ℕ → List ℕ → List (List ℕ) → List (List ℕ) → List (List ℕ)
put Less k l ls rest = k ∷ l ∷ ls
put Equal k l ls rest = l ∷ ls
put Greater k l ls rest = l ∷ rest

abbrev pub with_name : List ℕ → List (List ℕ) → List (List ℕ)
with_name k [] = k ∷ []
with_name k (l ∷ ls) = put (text_cmp k l) k l ls (with_name k ls)

-- the names in the order of their bytes, each once
abbrev pub in_order : List (List ℕ) → List (List ℕ)
in_order [] = []
in_order (k ∷ ks) = with_name k (in_order ks)
