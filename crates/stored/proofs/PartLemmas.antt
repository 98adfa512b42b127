-- What holds of all parts of an object: it holds of the object, and below each step.
use Rattle.std.proofs.Common.{◌≡◌, [], ◌∷◌, Option, Some, None, refl, sym, ap, ◌∙◌, subst, inl, inr, ◌⊎◌}
use Rattle.std.specs.Prelude.{option_map}
use Rattle.jtree.specs.Data.{Data}
use Rattle.jtree.specs.Data as tree
use Rattle.jtree.specs.Path.{Step, name, index, Path, part_by, member_at, item_at}
use Rattle.jtree.specs.Internal.Lookups.{option_cases}
use Rattle.schema.specs.Nodes.Node.{Node, node, object, map as map_of, list}
use Rattle.stored.specs.Objects.Parts.{Pair, fields, values, items, pair, node_by, Part, at, free, part_of, Leading, part_by_path, leads}

-- something holds of each part that has a node, and of that node
abbrev pub Everywhere : (Node → Data → Type 0) → Node → Data → Type 0
Everywhere Holds N v = (path : Path) (M : Node) (w : Data) → part_by_path leads (at N v) path ≡ Some (at M w) → Holds M w

same_node : (N M : Node) (v w : Data) → ◌≡◌ {A = Option Part} (Some (at N v)) (Some (at M w)) → N ≡ M
same_node N M v w e = cc

same_value : (N M : Node) (v w : Data) → ◌≡◌ {A = Option Part} (Some (at N v)) (Some (at M w)) → v ≡ w
same_value N M v w e = cc

pub same_part : (Holds : Node → Data → Type 0) (N : Node) (v : Data) → Holds N v → (M : Node) (w : Data) → ◌≡◌ {A = Option Part} (Some (at N v)) (Some (at M w)) → Holds M w
same_part Holds N v h M w e = subst (λ K. Holds K w) (same_node N M v w e) (subst (Holds N) (same_value N M v w e) h)

-- a free part has no node
pub never_free : (o : Option Data) (M : Node) (w : Data) → option_map (part_of None) o ≡ Some (at M w) → ⊥
never_free None M w e = cc
never_free (Some v) M w e = cc

-- nor for a part below one
pub stays_free : (lead : Leading) (v : Data) (path : Path) (M : Node) (w : Data) → part_by_path lead (free v) path ≡ Some (at M w) → ⊥
stays_free lead v [] M w e = cc
stays_free lead v (s ∷ path) M w e = elim (option_cases (part_by v s)) [
  | inl none ↦ let e' = rw none at e in cc
  | inr x ↦ stays_free lead x.0 path M w (rw x.1 at e)
]

part_cases : (o : Option Part) → (o ≡ None) ⊎ (((N : Node) × (v : Data) × (o ≡ Some (at N v))) ⊎ ((v : Data) × (o ≡ Some (free v))))
part_cases None = inl refl
part_cases (Some (at N v)) = inr (inl (N, v, refl))
part_cases (Some (free v)) = inr (inr (v, refl))

-- a step leads nowhere, to a part with a node, or to a free one
pub step_cases : (N : Node) (v : Data) (s : Step) → (leads N v s ≡ None) ⊎ (((M : Node) × (w : Data) × (leads N v s ≡ Some (at M w))) ⊎ ((w : Data) × (leads N v s ≡ Some (free w))))
step_cases N v s = part_cases (leads N v s)

-- what a step keeps, each path keeps
pub kept_everywhere : (Holds : Node → Data → Type 0) → ((N : Node) (v : Data) (s : Step) (M : Node) (w : Data) → Holds N v → leads N v s ≡ Some (at M w) → Holds M w)
    → (N : Node) (v : Data) → Holds N v → Everywhere Holds N v
kept_everywhere Holds step N v h [] M w e = same_part Holds N v h M w e
kept_everywhere Holds step N v h (s ∷ path) M w e = elim (step_cases N v s) [
  | inl none ↦ let e' = rw none at e in cc
  | inr (inl part) ↦ kept_everywhere Holds step part.0 part.1 (step N v s part.0 part.1 h part.2) path M w (rw part.2 at e)
  | inr (inr part) ↦ absurd (stays_free leads part.0 path M w (rw part.1 at e))
]

-- what holds everywhere holds everywhere below a step
pub holds_below : (Holds : Node → Data → Type 0) (N : Node) (v : Data) (s : Step) (M : Node) (w : Data) → Everywhere Holds N v → leads N v s ≡ Some (at M w) → Everywhere Holds M w
holds_below Holds N v s M w h is path K x e = h (s ∷ path) K x (rw is e)

-- what holds here, and everywhere below each step, holds everywhere
pub everywhere_up : (Holds : Node → Data → Type 0) (N : Node) (v : Data) → Holds N v × ((s : Step) (M : Node) (w : Data) → leads N v s ≡ Some (at M w) → Everywhere Holds M w)
    → Everywhere Holds N v
everywhere_up Holds N v h [] M w e = same_part Holds N v h.0 M w e
everywhere_up Holds N v h (s ∷ path) M w e = elim (step_cases N v s) [
  | inl none ↦ let e' = rw none at e in cc
  | inr (inl part) ↦ h.1 s part.0 part.1 part.2 path M w (rw part.2 at e)
  | inr (inr part) ↦ absurd (stays_free leads part.0 path M w (rw part.1 at e))
]

-- ---- a value beside its node

-- what a step leads to
abbrev pub part_in : Pair → Step → Option Data
part_in (fields fs preserves ms) (name k) = member_at k ms
part_in (values N ms) (name k) = member_at k ms
part_in (items N ds) (index i) = item_at i ds
part_in _ _ = None

pub part_is : (N : Node) (v : Data) (s : Step) (M : Node) → node_by (pair N v) s ≡ Some M → part_by v s ≡ part_in (pair N v) s
part_is (node nullable description (object fs preserves type bounds cs)) (tree.object ms) (name k) M e = refl
part_is (node nullable description (map_of N type bounds)) (tree.object ms) (name k) M e = refl
part_is (node nullable description (list N type keys bounds)) (tree.list ds) (index i) M e = refl
part_is _ _ _ M e = cc

-- where it leads to a part with a node, that is the part
pub leads_both : (N : Node) (v : Data) (s : Step) (M : Node) (w : Data) → leads N v s ≡ Some (at M w) → (node_by (pair N v) s ≡ Some M) × (part_in (pair N v) s ≡ Some w)
leads_both N v s M w e = elim (option_cases (part_by v s)) [
  | inl none ↦ let x = rw none at e in cc
  | inr u ↦ elim (option_cases (node_by (pair N v) s)) [
    | inl none ↦ let x = rw (u.1, none) at e in cc
    | inr L ↦
        let x = rw (u.1, L.1) at e in
        let n : L.0 ≡ M = cc in
        let d : u.0 ≡ w = cc in
        (L.1 ∙ ap Some n, sym (part_is N v s L.0 L.1) ∙ (u.1 ∙ ap Some d))
  ]
]

-- a path leads on from the part to which its first step leads
abbrev pub LedOn : Leading → Node → Data → Step → Path → Node → Data → Type 0
LedOn lead N v s path M w = (L : Node) × (u : Data) × (lead N v s ≡ Some (at L u)) × (part_by_path lead (at L u) path ≡ Some (at M w))

led_by : (lead : Leading) (N : Node) (v : Data) (s : Step) (path : Path) (M : Node) (w : Data) (q : Part) → lead N v s ≡ Some q → part_by_path lead q path ≡ Some (at M w) → LedOn lead N v s path M w
led_by lead N v s path M w (at L u) e f = (L, u, e, f)
led_by lead N v s path M w (free u) e f = absurd (stays_free lead u path M w f)

pub led_on : (lead : Leading) (N : Node) (v : Data) (s : Step) (path : Path) (M : Node) (w : Data) → part_by_path lead (at N v) (s ∷ path) ≡ Some (at M w) → LedOn lead N v s path M w
led_on lead N v s path M w e = elim (option_cases (lead N v s)) [
  | inl none ↦ let x = rw none at e in cc
  | inr q ↦ led_by lead N v s path M w q.0 q.1 (rw q.1 at e)
]
