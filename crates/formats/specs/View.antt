-- What values of the code represent.
use Rattle.std.specs.Prelude.{ℕ, List, map}
use Rattle.std.specs.Borrow.{Bor}

abbrev pub texts_at : List (Bor (List ℕ)) → List (List ℕ)
texts_at ts = map (λ t. t.now) ts
