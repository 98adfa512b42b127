-- Defaulting again changes nothing.
use Rattle.std.proofs.Common.{◌≡◌, ◌⊎◌, [], ◌∷◌, Bool, false, Option, Some, None, refl, sym, ap, ◌∙◌, subst, inl, inr}
use Rattle.std.specs.Prelude.{option_map, option_and_then}
use Rattle.std.proofs.lemmas.Option.{same_Some}
use Rattle.jtree.specs.Data.{Data, Items, Members}
use Rattle.jtree.specs.Data as tree
use Rattle.jtree.specs.Path.{Step, name, index, Path, member_at, item_at, part_at}
use Rattle.jtree.specs.Internal.Lookups.{bool_cases, option_cases}
use Rattle.schema.specs.Nodes.Node.{Node, node, object, map, list, Fields}
use Rattle.schema.specs.Nodes.ByPlace.{field_at}
use Rattle.stored.specs.Objects.Parts.{Part, at, value_of, part_by_path, Leading, pair, fields, values, items, whole}
use Rattle.stored.specs.Objects.Becomes.{Label, label, Becomes, leads_filled, filled_under, admitted, is_nullable, or_default, IsFilled}
use Rattle.stored.specs.Objects.Becomes as labels
use Rattle.stored.specs.Internal.Becoming.{PartBecomes}
use Rattle.stored.proofs.BecomingLemmas.{free_stays}
use Rattle.stored.proofs.FilledParts.{whole_filled}

-- ---- kinds

pub null_only : (v : Data) → label v ≡ labels.null → v ≡ tree.null
null_only tree.null e = refl
null_only _ e = absurd (cc)

pub list_only : (v : Data) → label v ≡ labels.list → (ds : Items) × (v ≡ tree.list ds)
list_only (tree.list ds) e = (ds, refl)
list_only _ e = absurd (cc)

pub object_only : (v : Data) → label v ≡ labels.object → (ms : Members) × (v ≡ tree.object ms)
object_only (tree.object ms) e = (ms, refl)
object_only _ e = absurd (cc)

pub same_label : (lead : Leading) (N : Node) (v w : Data) → Becomes lead N v w → label w ≡ label v
same_label lead N v w b = same_Some (label w) (label v) (b [])

-- ---- what becomes of an absent part, and of one that is there

pub absent : (lead : Leading) (q : Option Part) (w : Option Data) → PartBecomes lead q w → q ≡ None → w ≡ None
absent lead q None b none = refl
absent lead q (Some d) b none = let e = rw none at (b []) in absurd (cc)

pub present : (lead : Leading) (q : Part) (w : Option Data) → PartBecomes lead (Some q) w → (d : Data) × (w ≡ Some d)
present lead q None b = let e = b [] in absurd (cc)
present lead q (Some d) b = (d, refl)

-- ---- nulls

admitted_cases : (N : Node) (v : Data) → (admitted N (Some v) ≡ Some v) ⊎ ((v ≡ tree.null) × (is_nullable N ≡ false))
admitted_cases N tree.null = elim (bool_cases (is_nullable N)) [ inl t ↦ inl (rw t refl) | inr f ↦ inr (refl, f) ]
admitted_cases N _ = inl refl

no_null : (N : Node) (v : Option Data) → is_nullable N ≡ false → admitted N v ≡ Some tree.null → ⊥
no_null N None f e = cc
no_null N (Some tree.null) f e = let g = rw f at e in cc
no_null N (Some _) f e = cc

or_default_null : (N : Node) (v default : Option Data) → is_nullable N ≡ false → or_default (admitted N v) default ≡ Some tree.null → default ≡ Some tree.null
or_default_null N v default f e = elim (option_cases (admitted N v)) [
  | inl none ↦ rw none at e
  | inr a ↦ absurd (no_null N v f (a.1 ∙ rw a.1 at e))
]

no_default : (v default : Option Data) → or_default v default ≡ None → default ≡ None
no_default None default e = e
no_default (Some d) default e = absurd (cc)

-- ---- at a path

abbrev IsFilledAgain : Node → Data → Path → Type 0
IsFilledAgain N w path = option_map label (part_at w path) ≡ option_map (λ q. label (value_of q)) (part_by_path leads_filled (at N w) path)

-- what is there by default, or is admitted, has been filled
under_node : (N : Node) (v default y : Option Data) (path : Path) → PartBecomes leads_filled (option_map (at N) (or_default (admitted N v) default)) y
    → ((d e : Data) → IsFilled N d e → IsFilledAgain N e path)
    → option_map label (option_and_then (λ d. part_at d path) y) ≡ option_map (λ r. label (value_of r)) (option_and_then (λ r. part_by_path leads_filled r path) (option_map (at N) (or_default (admitted N y) default)))
under_node N v default y path b again = elim (option_cases (or_default (admitted N v) default)) [
  | inl none ↦
      let gone = absent leads_filled (option_map (at N) (or_default (admitted N v) default)) y b (rw none refl) in
      rw (gone, no_default (admitted N v) default none) refl
  | inr d ↦
      let is = present leads_filled (at N d.0) y (rw d.1 at b) in
      let here : IsFilled N d.0 is.0 = rw (d.1, is.1) at b in
      elim (admitted_cases N is.0) [
        | inl admits ↦ rw (is.1, admits) (again d.0 is.0 here)
        | inr null ↦
            let was = null_only d.0 (sym (same_label leads_filled N d.0 is.0 here) ∙ ap label null.0) in
            let default_is = or_default_null N v default null.1 (d.1 ∙ ap Some was) in
            let same : IsFilledAgain N tree.null path = subst (λ z. IsFilledAgain N z path) null.0 (again d.0 is.0 here) in
            rw (is.1, null.0, null.1, default_is) same
      ]
]

under_item : (N : Node) (v y : Option Data) (path : Path) → PartBecomes leads_filled (option_map (at N) v) y → ((d e : Data) → IsFilled N d e → IsFilledAgain N e path)
    → option_map label (option_and_then (λ d. part_at d path) y) ≡ option_map (λ r. label (value_of r)) (option_and_then (λ r. part_by_path leads_filled r path) (option_map (at N) y))
under_item N None y path b again = rw (absent leads_filled None y b refl) refl
under_item N (Some d) y path b again = let is = present leads_filled (at N d) y b in rw is.1 (again d is.0 (rw is.1 at b))

or_none : (v : Option Data) → or_default v None ≡ v
or_none None = refl
or_none (Some d) = refl

whole_same : (N : Node) (v w : Data) → pair N v ≡ whole → label w ≡ label v → pair N w ≡ whole
whole_same (node n t (object fs preserves type bounds cs)) v (tree.object ns) e l = let is = object_only v (sym l) in let f = rw is.1 at e in absurd (cc)
whole_same (node n t (map N type bounds)) v (tree.object ns) e l = let is = object_only v (sym l) in let f = rw is.1 at e in absurd (cc)
whole_same (node n t (list N type keys bounds)) v (tree.list es) e l = let is = list_only v (sym l) in let f = rw is.1 at e in absurd (cc)
whole_same _ v w e l = refl

object_step : (N : Node) (fs : Fields) (preserves : Bool) (ms ns : Members) → pair N (tree.object ms) ≡ fields fs preserves ms → pair N (tree.object ns) ≡ fields fs preserves ns
    → IsFilled N (tree.object ms) (tree.object ns) → (s : Step) (path : Path) → ((M : Node) (d e : Data) → IsFilled M d e → IsFilledAgain M e path) → IsFilledAgain N (tree.object ns) (s ∷ path)
object_step N fs preserves ms ns was is b (name k) path again = rw is (elim (option_cases (field_at k fs)) [
  | inl none ↦ rw none (free_stays leads_filled (member_at k ns) path)
  | inr f ↦
      let here : PartBecomes leads_filled (filled_under (Some f.0) (member_at k ms)) (member_at k ns) = λ p. rw (was, f.1) at (b (name k ∷ p)) in
      rw f.1 (under_node f.0.node (member_at k ms) f.0.default (member_at k ns) path here (again f.0.node))
])
object_step N fs preserves ms ns was is b (index i) path again = rw is refl

map_step : (N M : Node) (ms ns : Members) → pair N (tree.object ms) ≡ values M ms → pair N (tree.object ns) ≡ values M ns
    → IsFilled N (tree.object ms) (tree.object ns) → (s : Step) (path : Path) → ((K : Node) (d e : Data) → IsFilled K d e → IsFilledAgain K e path) → IsFilledAgain N (tree.object ns) (s ∷ path)
map_step N M ms ns was is b (name k) path again =
    let here : PartBecomes leads_filled (option_map (at M) (or_default (admitted M (member_at k ms)) None)) (member_at k ns) = λ p. rw or_none (rw was at (b (name k ∷ p))) in
    rw is (rw or_none at (under_node M (member_at k ms) None (member_at k ns) path here (again M)))
map_step N M ms ns was is b (index i) path again = rw is refl

list_step : (N M : Node) (ds es : Items) → pair N (tree.list ds) ≡ items M ds → pair N (tree.list es) ≡ items M es
    → IsFilled N (tree.list ds) (tree.list es) → (s : Step) (path : Path) → ((K : Node) (d e : Data) → IsFilled K d e → IsFilledAgain K e path) → IsFilledAgain N (tree.list es) (s ∷ path)
list_step N M ds es was is b (name k) path again = rw is refl
list_step N M ds es was is b (index i) path again =
    let here : PartBecomes leads_filled (option_map (at M) (item_at i ds)) (item_at i es) = λ p. rw (was, was) at (b (index i ∷ p)) in
    rw (is, is) (under_item M (item_at i ds) (item_at i es) path here (again M))

step : (N : Node) (v w : Data) → IsFilled N v w → (s : Step) (path : Path) → ((M : Node) (d e : Data) → IsFilled M d e → IsFilledAgain M e path) → IsFilledAgain N w (s ∷ path)
step (node n t (object fs preserves type bounds cs)) (tree.object ms) w b s path again =
    let N = node n t (object fs preserves type bounds cs) in
    let is = object_only w (same_label leads_filled N (tree.object ms) w b) in
    subst (λ z. IsFilledAgain N z (s ∷ path)) (sym is.1) (object_step N fs preserves ms is.0 refl refl (subst (IsFilled N (tree.object ms)) is.1 b) s path again)
step (node n t (map M type bounds)) (tree.object ms) w b s path again =
    let N = node n t (map M type bounds) in
    let is = object_only w (same_label leads_filled N (tree.object ms) w b) in
    subst (λ z. IsFilledAgain N z (s ∷ path)) (sym is.1) (map_step N M ms is.0 refl refl (subst (IsFilled N (tree.object ms)) is.1 b) s path again)
step (node n t (list M type keys bounds)) (tree.list ds) w b s path again =
    let N = node n t (list M type keys bounds) in
    let is = list_only w (same_label leads_filled N (tree.list ds) w b) in
    subst (λ z. IsFilledAgain N z (s ∷ path)) (sym is.1) (list_step N M ds is.0 refl refl (subst (IsFilled N (tree.list ds)) is.1 b) s path again)
step N v w b s path again = whole_filled N w (whole_same N v w refl (same_label leads_filled N v w b)) (s ∷ path)

pub filled_again : (N : Node) (v w : Data) → IsFilled N v w → IsFilled N w w
filled_again N v w b [] = refl
filled_again N v w b (s ∷ path) = step N v w b s path (λ M d e h. filled_again M d e h path)
