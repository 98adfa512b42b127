-- Members that pruning drops, and that none is dropped exactly where pruning changes nothing.
use Rattle.std.proofs.Common.{◌≡◌, [], ◌∷◌, Bool, true, false, Some, refl, ap, ◌∙◌, inl, inr}
use Rattle.std.specs.Prelude.{not, ◌&&◌}
use Rattle.jtree.specs.Data.{Data}
use Rattle.jtree.specs.Data as tree
use Rattle.jtree.specs.Path.{Step, name, index, Path, part_by}
use Rattle.jtree.specs.Internal.Lookups.{bool_cases, option_cases}
use Rattle.schema.specs.Nodes.Node.{Node, node, object, map as map_of, list}
use Rattle.schema.specs.Nodes.ByPlace.{field_at}
use Rattle.stored.specs.Objects.Parts.{Pair, fields, values, items, pair, node_by, at, part_by_path, leads}
use Rattle.stored.specs.Objects.Fault.{IsValid}
use Rattle.stored.specs.Objects.Becomes.{cuts, leads_uncut, IsPruned}
use Rattle.stored.specs.Objects.StrictFaults.{IsDropped, IsStrictlyValid}
use Rattle.stored.proofs.BecomingLemmas.{free_stays}
use Rattle.stored.proofs.PartLemmas.{part_in, part_is, leads_both, led_on}

-- ---- steps that are cut

pub cut_is : (N : Node) (v : Data) (s : Step) → cuts (pair N v) s ≡ true → part_by v s ≡ part_in (pair N v) s
cut_is (node nullable description (object fs preserves type bounds cs)) (tree.object ms) (name k) e = refl
cut_is (node nullable description (map_of N type bounds)) (tree.object ms) (name k) e = refl
cut_is (node nullable description (list N type keys bounds)) (tree.list ds) (index i) e = refl
cut_is _ _ _ e = cc

kept_name : (b : Bool) → (b && false) ≡ false
kept_name true = refl
kept_name false = refl

-- what has a node is not cut
node_kept : (P : Pair) (s : Step) (M : Node) → node_by P s ≡ Some M → cuts P s ≡ false
node_kept (fields fs preserves ms) (name k) M e = elim (option_cases (field_at k fs)) [
  | inl none ↦ let x = rw none at e in cc
  | inr f ↦ rw f.1 (kept_name (not preserves))
]
node_kept (values N ms) (name k) M e = refl
node_kept (items N ds) (index i) M e = refl
node_kept _ _ M e = cc

node_uncut : (N : Node) (v : Data) (s : Step) (M : Node) (w : Data) → leads N v s ≡ Some (at M w) → leads_uncut N v s ≡ Some (at M w)
node_uncut N v s M w e = let both = leads_both N v s M w e in let kept = node_kept (pair N v) s M both.0 in rw kept e

pub uncut_node : (N : Node) (v : Data) (s : Step) (M : Node) (w : Data) → leads_uncut N v s ≡ Some (at M w) → leads N v s ≡ Some (at M w)
uncut_node N v s M w e = elim (bool_cases (cuts (pair N v) s)) [ inl t ↦ let x = rw t at e in cc | inr f ↦ rw f at e ]

pub path_uncut : (path : Path) (N : Node) (v : Data) (M : Node) (w : Data) → part_by_path leads_uncut (at N v) path ≡ Some (at M w) → part_by_path leads (at N v) path ≡ Some (at M w)
path_uncut [] N v M w e = e
path_uncut (s ∷ path) N v M w e =
    let l = led_on leads_uncut N v s path M w e in
    let there = uncut_node N v s l.0 l.1 l.2 in
    rw there (path_uncut path l.0 l.1 M w l.3)

-- ---- members that are dropped

pub dropped_here : (N : Node) (v : Data) (s : Step) (d : Data) → cuts (pair N v) s ≡ true → part_by v s ≡ Some d → IsDropped N v (s ∷ [])
dropped_here N v s d c there = record { before = []; last = s; is = refl; node = N; value = v; leads_there = refl; member = d; there = there; cut = c }

pub dropped_deeper : (N : Node) (v : Data) (s : Step) (M : Node) (w : Data) (p : Path) → leads N v s ≡ Some (at M w) → IsDropped M w p → IsDropped N v (s ∷ p)
dropped_deeper N v s M w p e d = record {
  before = s ∷ d.before;
  last = d.last;
  is = ap (λ x. s ∷ x) d.is;
  node = d.node;
  value = d.value;
  leads_there = let there = node_uncut N v s M w e in rw there d.leads_there;
  member = d.member;
  there = d.there;
  cut = d.cut;
}

-- ---- the law

none_dropped : (N : Node) (v : Data) → ((path : Path) → IsDropped N v path → ⊥) → IsPruned N v v
none_dropped N v none [] = refl
none_dropped N v none (s ∷ path) = elim (bool_cases (cuts (pair N v) s)) [
  | inl c ↦ elim (option_cases (part_by v s)) [
    | inl gone ↦ rw (c, gone) refl
    | inr d ↦ absurd (none (s ∷ []) (dropped_here N v s d.0 c d.1))
  ]
  | inr kept ↦ elim (option_cases (part_by v s)) [
    | inl gone ↦ rw (kept, gone) refl
    | inr d ↦ elim (option_cases (node_by (pair N v) s)) [
      | inl undeclared ↦ rw (kept, d.1, undeclared) (free_stays leads_uncut (Some d.0) path)
      | inr M ↦
          let there : leads N v s ≡ Some (at M.0 d.0) = rw (d.1, M.1) refl in
          rw (kept, d.1, M.1) (none_dropped M.0 d.0 (λ p x. none (s ∷ p) (dropped_deeper N v s M.0 d.0 p there x)) path)
    ]
  ]
]

dropped_changes : (before : Path) (last : Step) (N : Node) (v : Data) (M : Node) (w d : Data) → part_by_path leads_uncut (at N v) before ≡ Some (at M w) → part_by w last ≡ Some d
    → cuts (pair M w) last ≡ true → IsPruned N v v → ⊥
dropped_changes [] last N v M w d e there c pruned =
    let x : N ≡ M = cc in
    let y : v ≡ w = cc in
    let c' : cuts (pair N v) last ≡ true = rw (x, y) c in
    let there' : part_by v last ≡ Some d = rw y there in
    let same = rw (there', c') at (pruned (last ∷ [])) in
    cc
dropped_changes (s ∷ before) last N v M w d e there c pruned =
    let l = led_on leads_uncut N v s before M w e in
    let both = leads_both N v s l.0 l.1 (uncut_node N v s l.0 l.1 l.2) in
    let part : part_by v s ≡ Some l.1 = part_is N v s l.0 both.0 ∙ both.1 in
    let step = l.2 in
    dropped_changes before last l.0 l.1 M w d l.3 there c (λ path. rw (step, part) at (pruned (s ∷ path)))

pub by_pruning : (N : Node) (v : Data) → (IsStrictlyValid N v → IsValid N v × IsPruned N v v) × (IsValid N v × IsPruned N v v → IsStrictlyValid N v)
by_pruning N v = (
  λ strict. (λ path t f. strict path t (inl f), none_dropped N v (λ path d. strict path _ (inr (refl, d)))),
  λ h path t f. elim f [
    | inl fault ↦ h.0 path t fault
    | inr dropped ↦ let d = dropped.1 in dropped_changes d.before d.last N v d.node d.value d.member d.leads_there d.there d.cut h.1
  ],
)
