-- Fixed values in which the rest of a path is there.
use Rattle.std.proofs.Common.{◌≡◌, List, [], ◌∷◌, ◌++◌, Bool, true, false, refl, sym, ap, ◌∙◌, inl, inr, map}
use Rattle.jtree.specs.Data.{Data, IsTree, AreTrees}
use Rattle.jtree.specs.View.{data_of, items_of}
use Rattle.jtree.specs.Internal.Lookups.{bool_cases}
use Rattle.jtree.specs.declared.value.Tree.{Tree}
use Rattle.cover.specs.Internal.Narrowed.{kept_of, as_items}

pub items_are : (ts : List Tree) → items_of ts ≡ as_items (map (λ t. data_of t) ts)
items_are [] = refl
items_are (t ∷ ts) = rw (items_are ts) refl

map_last : (ts : List Tree) (t : Tree) → map (λ t. data_of t) (ts ++ t ∷ []) ≡ map (λ t. data_of t) ts ++ data_of t ∷ []
map_last [] t = refl
map_last (u ∷ ts) t = ap (λ ds. data_of u ∷ ds) (map_last ts t)

kept_in : (test : Data → Bool) (ds : List Data) (d : Data) → test d ≡ true → kept_of test (ds ++ d ∷ []) ≡ kept_of test ds ++ d ∷ []
kept_in test [] d passes = rw passes refl
kept_in test (e ∷ ds) d passes = elim (bool_cases (test e)) [
  | inl t ↦ rw t (ap (λ x. e ∷ x) (kept_in test ds d passes))
  | inr f ↦ rw f (kept_in test ds d passes)
]

kept_out : (test : Data → Bool) (ds : List Data) (d : Data) → test d ≡ false → kept_of test (ds ++ d ∷ []) ≡ kept_of test ds
kept_out test [] d fails = rw fails refl
kept_out test (e ∷ ds) d fails = elim (bool_cases (test e)) [
  | inl t ↦ rw t (ap (λ x. e ∷ x) (kept_out test ds d fails))
  | inr f ↦ rw f (kept_out test ds d fails)
]

pub kept_one : (test : Data → Bool) (ts : List Tree) (t : Tree) (kept : List Tree) → map (λ t. data_of t) kept ≡ kept_of test (map (λ t. data_of t) ts) → test (data_of t) ≡ true
    → map (λ t. data_of t) (kept ++ t ∷ []) ≡ kept_of test (map (λ t. data_of t) (ts ++ t ∷ []))
kept_one test ts t kept e passes = map_last kept t ∙ (ap (λ ds. ds ++ data_of t ∷ []) e ∙ sym (ap (kept_of test) (map_last ts t) ∙ kept_in test (map (λ t. data_of t) ts) (data_of t) passes))

pub kept_none : (test : Data → Bool) (ts : List Tree) (t : Tree) (kept : List Tree) → map (λ t. data_of t) kept ≡ kept_of test (map (λ t. data_of t) ts) → test (data_of t) ≡ false
    → map (λ t. data_of t) kept ≡ kept_of test (map (λ t. data_of t) (ts ++ t ∷ []))
kept_none test ts t kept e fails = e ∙ sym (ap (kept_of test) (map_last ts t) ∙ kept_out test (map (λ t. data_of t) ts) (data_of t) fails)

pub trees_one : (ts : List Tree) (t : Tree) → AreTrees (items_of ts) → IsTree (data_of t) → AreTrees (items_of (ts ++ t ∷ []))
trees_one [] t trees tree = (tree, tt)
trees_one (u ∷ ts) t trees tree = (trees.0, trees_one ts t trees.1 tree)
