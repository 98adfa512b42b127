-- Trees of the code and their data, and a loop that writes in place.
use Rattle.std.proofs.Common.{◌≡◌, ℕ, List, [], ◌∷◌, arith, ◌++◌, Bool, true, false, ◌+◌, ◌<◌, get_or, set, map, take, drop, length, refl, sym, ap, ◌∙◌}
use Rattle.std.specs.Prelude.{if◌then◌else◌}
use Rattle.std.proofs.lemmas.List.Edits.{map_over_more}
use Rattle.jtree.specs.Data.{Data, IsTree}
use Rattle.jtree.specs.Data as tree
use Rattle.jtree.specs.View.{data_of, tree_from}
use Rattle.jtree.specs.declared.value.Tree.{Tree}

pub data_back : (d : Data) → data_of (tree_from d) ≡ d
data_back tree.null = refl
data_back (tree.boolean b) = refl
data_back (tree.integer z) = refl
data_back (tree.number s) = refl
data_back (tree.text s) = refl
data_back (tree.list ds) = refl
data_back (tree.object ms) = refl

-- the tree of one of two values
pub data_if : (b : Bool) (d : Data) (t : Tree) → data_of (if b then tree_from d else t) ≡ if b then d else data_of t
data_if true d t = data_back d
data_if false d t = refl

pub data_unless : (b : Bool) (t : Tree) (d : Data) → data_of (if b then t else tree_from d) ≡ if b then data_of t else d
data_unless true t d = refl
data_unless false t d = data_back d

pub either_tree : (b : Bool) (d e : Data) → IsTree d → IsTree e → IsTree (if b then d else e)
either_tree true d e p q = p
either_tree false d e p q = q

pub mapped_more : {X : Type 0} (f : X → X) (xs ys : List X) (i : ℕ) (d y : X) → i < length xs → ys ≡ map f (take i xs) ++ drop i xs → d ≡ get_or ys i d → y ≡ f (get_or ys i d)
    → set ys i y ≡ map f (take (i + 1) xs) ++ drop (i + 1) xs
mapped_more f xs ys i d y within e is new = rw (new ∙ ap f (sym is)) (map_over_more f xs ys i d within e is)

-- a list of no length is over
pub no_more : {X : Type 0} (xs : List X) (n : ℕ) → n ≡ length xs → n ≡ 0 → xs ≡ []
no_more [] n is none = refl
no_more (x ∷ xs) n is none = absurd (omega arith)
