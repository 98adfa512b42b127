-- Each scalar and null of an object has exactly one leaf at its path or at a beginning of it.
use Rattle.std.specs.Prelude.{◌≡◌, ◌++◌, List, [], ◌∷◌, true, false, Some}
use Rattle.std.proofs.Common.{ℕ, refl, sym, ap, subst, inl, inr}
use Rattle.jtree.specs.Data.{Data}
use Rattle.jtree.specs.Data as tree
use Rattle.jtree.specs.Path.{Step, Path, part_by, part_at}
use Rattle.jtree.specs.Internal.Lookups.{bool_cases, option_cases}
use Rattle.schema.specs.Nodes.Node.{Node, node, object, map, list}
use Rattle.stored.specs.Objects.Parts.{Part, at, free, pair, whole, node_by, leads}
use Rattle.stored.specs.Objects.Leaves.{is_divided, element, leaf_at, is_simple, HasOneLeaf, IsCovered}
use Rattle.stored.proofs.LeafLevelLemmas.{undivided, down}

simple_is_whole : (N : Node) (v : Data) → is_simple v ≡ true → pair N v ≡ whole
simple_is_whole (node n t (object fs preserves type bounds cs)) (tree.object ms) simple = cc
simple_is_whole (node n t (map M type bounds)) (tree.object ms) simple = cc
simple_is_whole (node n t (list M type keys bounds)) (tree.list ds) simple = cc
simple_is_whole _ _ simple = refl

-- the one beginning of a path at which a part has a leaf
abbrev IsOnly : Part → Path → Path → Type 0
IsOnly q path before = (b a : Path) (es : List (List ℕ)) → path ≡ b ++ a → leaf_at q b ≡ Some es → b ≡ before

only_here : (N : Node) (v : Data) (path : Path) → is_divided N v ≡ false → IsOnly (at N v) path []
only_here N v path single [] a es is there = refl
only_here N v path single (s ∷ b) a es is there = let none = rw single at there in cc

only_free : (v : Data) (path : Path) → IsOnly (free v) path []
only_free v path [] a es is there = refl
only_free v path (s ∷ b) a es is there = cc

only_below : (N : Node) (v : Data) (s : Step) (q : Part) (path before : Path) → is_divided N v ≡ true → leads N v s ≡ Some q → IsOnly q path before → IsOnly (at N v) (s ∷ path) (s ∷ before)
only_below N v s q path before divided led only [] a es is there = let none = rw divided at there in cc
only_below N v s q path before divided led only (t ∷ b) a es is there =
    let step : s ≡ t = cc in
    let rest : path ≡ b ++ a = cc in
    let x = down N v t b es divided there in
    let part : x.0 ≡ q = let both : leads N v s ≡ Some x.0 = subst (λ u. leads N v u ≡ Some x.0) (sym step) x.2 in cc in
    let same = only b a x.1 rest (subst (λ r. leaf_at r b ≡ Some x.1) part x.3) in
    cc

one_below : (N : Node) (v : Data) (s : Step) (path : Path) (M : Node) (w : Data) → is_divided N v ≡ true → leads N v s ≡ Some (at M w) → HasOneLeaf M w path → HasOneLeaf N v (s ∷ path)
one_below N v s path M w divided led r = record {
  before = s ∷ r.before;
  after = r.after;
  is = ap (λ p. s ∷ p) r.is;
  elements = element N s w ∷ r.elements;
  there = rw (divided, led, r.there) refl;
  only = only_below N v s (at M w) path r.before divided led r.only;
}

one_free : (N : Node) (v : Data) (s : Step) (path : Path) (w : Data) → is_divided N v ≡ true → leads N v s ≡ Some (free w) → HasOneLeaf N v (s ∷ path)
one_free N v s path w divided led = record {
  before = s ∷ [];
  after = path;
  is = refl;
  elements = element N s w ∷ [];
  there = rw (divided, led) refl;
  only = only_below N v s (free w) path [] divided led (only_free w path);
}

one_whole : (N : Node) (v : Data) (path : Path) → is_divided N v ≡ false → HasOneLeaf N v path
one_whole N v path single = record { before = []; after = path; is = refl; elements = []; there = rw single refl; only = only_here N v path single }

cover : (path : Path) (N : Node) (v d : Data) → part_at v path ≡ Some d → is_simple d ≡ true → HasOneLeaf N v path
cover [] N v d e simple = elim (bool_cases (is_divided N v)) [
  | inl divided ↦ let same : d ≡ v = cc in absurd (undivided N v (simple_is_whole N v (subst (λ w. is_simple w ≡ true) same simple)) divided)
  | inr single ↦ one_whole N v [] single
]
cover (s ∷ path) N v d e simple = elim (bool_cases (is_divided N v)) [
  | inl divided ↦ elim (option_cases (part_by v s)) [
    | inl none ↦ let f = rw none at e in cc
    | inr w ↦ elim (option_cases (node_by (pair N v) s)) [
      | inl none ↦ one_free N v s path w.0 divided (rw (w.1, none) refl)
      | inr M ↦ one_below N v s path M.0 w.0 divided (rw (w.1, M.1) refl) (cover path M.0 w.0 d (rw w.1 at e) simple)
    ]
  ]
  | inr single ↦ one_whole N v (s ∷ path) single
]

pub covered : (N : Node) (v : Data) → IsCovered N v
covered N v path d e simple = cover path N v d e simple
