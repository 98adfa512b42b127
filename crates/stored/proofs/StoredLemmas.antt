-- A value is stored exactly where it passes what its node asks of the value itself and its parts are stored.
use Rattle.std.proofs.Common.{◌≡◌, ℕ, List, [], ◌∷◌, true, false, Option, Some, None, refl, inl, inr}
use Rattle.std.specs.Prelude.{option_map, not, ◌&&◌, is_none}
use Rattle.std.proofs.lemmas.Bool.{and_right, and_cases}
use Rattle.jtree.specs.Data.{Data}
use Rattle.jtree.specs.Data as tree
use Rattle.jtree.specs.Path.{Step, name, index, member_at, item_at, part_by}
use Rattle.jtree.specs.Internal.Lookups.{bool_cases, option_cases}
use Rattle.schema.specs.Nodes.Node.{Node, node, object, map, list}
use Rattle.schema.specs.Nodes.ByPlace.{Declared, field_at}
use Rattle.stored.specs.Objects.Parts.{Pair, fields, pair, Part, at, leads}
use Rattle.stored.specs.Objects.Fault.{F12, lacks_name, IsValid}
use Rattle.stored.specs.Objects.Becomes.{leads_uncut, leads_filled, admitted, or_default, IsStored}
use Rattle.stored.specs.Objects.StoredByParts.{IsStoredField, ArePartsStored, StoredByParts}
use Rattle.stored.specs.Internal.Becoming.{PartBecomes}
use Rattle.stored.proofs.PartLemmas.{same_part, never_free, everywhere_up}
use Rattle.stored.proofs.BecomingLemmas.{free_stays, by_steps}
use Rattle.stored.proofs.ValidLemmas.{FindsNothing, faultless, no_fault, faultless_below, here_from, none_found, null_parts}
use Rattle.stored.proofs.FilledAgain.{absent}

-- what a step leads to is valid, and is there once it is pruned, and once it is filled
abbrev Stays : Option Part → Option Part → Option Part → Option Data → Type 0
Stays part uncut filled y = ((M : Node) (w : Data) → part ≡ Some (at M w) → IsValid M w) × PartBecomes leads_uncut uncut y × PartBecomes leads_filled filled y

abbrev StaysBy : Node → Data → Step → Type 0
StaysBy N v s = Stays (leads N v s) (leads_uncut N v s) (leads_filled N v s) (part_by v s)

-- what is at a node, where it is filled from z
abbrev StaysAt : Node → Option Data → Option Data → Type 0
StaysAt M y z = Stays (option_map (at M) y) (option_map (at M) y) (option_map (at M) z) y

-- a node admits what is valid there
admits : (M : Node) (y : Option Data) → ((K : Node) (w : Data) → option_map (at M) y ≡ Some (at K w) → IsValid K w) → admitted M y ≡ y
admits M None v = refl
admits (node nullable description sort) (Some tree.null) v = rw (null_parts _ (here_from _ _ (faultless _ _ (v (node nullable description sort) tree.null refl)))).0 refl
admits M (Some w) v = refl

-- ---- what stays is stored

part_stored : (M : Node) (y z : Option Data) → StaysAt M y z → (admitted M y ≡ y → z ≡ y) → (w : Data) → y ≡ Some w → IsStored M w
part_stored M y z h same w is = record { valid = h.0 M w (rw is refl); pruned = rw is at h.1; filled = rw (same (admits M y h.0), is) at h.2 }

field_stored : (f : Declared) (y : Option Data) → (f.required && is_none y) ≡ false → StaysAt f.node y (or_default (admitted f.node y) f.default) → IsStoredField f y
field_stored f None r h = (
  elim (and_cases f.required true r) [ inl e ↦ e | inr e ↦ cc ],
  elim (option_cases f.default) [ inl none ↦ none | inr d ↦ let e = rw d.1 at (h.2 []) in cc ],
)
field_stored f (Some w) r h = part_stored f.node (Some w) (or_default (admitted f.node (Some w)) f.default) h (λ same. rw same refl) w refl

parts_stored : (N : Node) (v : Data) → FindsNothing N v → ((s : Step) → StaysBy N v s) → ArePartsStored (pair N v)
parts_stored (node n t (object fs preserves type bounds cs)) (tree.object ms) found h = (
  λ k none others. absent leads_uncut None (member_at k ms) (rw (none, others) at (h (name k)).1) refl,
  λ k f is. field_stored f (member_at k ms) (rw is at (found (name k ∷ []) F12)) (rw (is, and_right (not preserves) false refl) at (h (name k))),
)
parts_stored (node n t (map M type bounds)) (tree.object ms) found h = λ k. part_stored M (member_at k ms) (admitted M (member_at k ms)) (h (name k)) (λ same. same)
parts_stored (node n t (list M type keys bounds)) (tree.list ds) found h = λ i. part_stored M (item_at i ds) (item_at i ds) (h (index i)) (λ same. refl)
parts_stored N v found h = tt

pub by_parts : (N : Node) (v : Data) → IsStored N v → StoredByParts N v
by_parts N v s = let f = faultless N v s.valid in (
  here_from N v f,
  parts_stored N v (f [] N v refl) (λ step. (λ M w e. no_fault M w (faultless_below N v step M w f e), λ path. s.pruned (step ∷ path), λ path. s.filled (step ∷ path))),
)

-- ---- what is stored stays

part_stays : (M : Node) (y z : Option Data) → ((w : Data) → y ≡ Some w → IsStored M w) → (admitted M y ≡ y → z ≡ y) → StaysAt M y z
part_stays M None z h same = (λ K w e. absurd (cc), λ path. refl, rw (same refl) (λ path. refl))
part_stays M (Some d) z h same = let s = h d refl in let valid = same_part IsValid M d s.valid in (valid, s.pruned, rw (same (admits M (Some d) valid)) s.filled)

field_same : (f : Declared) (y : Option Data) → IsStoredField f y → admitted f.node y ≡ y → or_default (admitted f.node y) f.default ≡ y
field_same f None h same = h.1
field_same f (Some d) h same = rw same refl

stays_by : (N : Node) (v : Data) → ArePartsStored (pair N v) → (s : Step) → StaysBy N v s
stays_by (node n t (object fs preserves type bounds cs)) (tree.object ms) h (name k) = let y = member_at k ms in elim (option_cases (field_at k fs)) [
  | inl none ↦ rw none (
    λ M w e. absurd (never_free y M w e),
    elim (bool_cases preserves) [ inl all ↦ rw all (free_stays leads_uncut y) | inr others ↦ rw (others, h.0 k none others) (λ path. refl) ],
    free_stays leads_filled y,
  )
  | inr f ↦
      let is = h.1 k f.0 f.1 in
      rw (f.1, and_right (not preserves) false refl) (part_stays f.0.node y (or_default (admitted f.0.node y) f.0.default) (λ w e. rw e at is) (field_same f.0 y is))
]
stays_by (node n t (map M type bounds)) (tree.object ms) h (name k) = part_stays M (member_at k ms) (admitted M (member_at k ms)) (h k) (λ same. same)
stays_by (node n t (list M type keys bounds)) (tree.list ds) h (index i) = part_stays M (item_at i ds) (item_at i ds) (h i) (λ same. refl)
stays_by N v h s = (λ M w e. absurd (never_free (part_by v s) M w e), free_stays leads_uncut (part_by v s), free_stays leads_filled (part_by v s))

field_lacks_none : (f : Declared) (y : Option Data) → IsStoredField f y → (f.required && is_none y) ≡ false
field_lacks_none f None h = rw h.0 refl
field_lacks_none f (Some w) h = and_right f.required false refl

lacks_no_name : (p : Pair) → ArePartsStored p → (k : List ℕ) → lacks_name p k ≡ false
lacks_no_name (fields fs preserves ms) h k = elim (option_cases (field_at k fs)) [ inl none ↦ rw none refl | inr f ↦ rw f.1 (field_lacks_none f.0 (member_at k ms) (h.1 k f.0 f.1)) ]
lacks_no_name p h k = refl

pub from_parts : (N : Node) (v : Data) → StoredByParts N v → IsStored N v
from_parts N v h = let stays = stays_by N v h.1 in record {
  valid = no_fault N v (everywhere_up FindsNothing N v (none_found N v h.0 (lacks_no_name (pair N v) h.1), λ s M w e. faultless M w ((stays s).0 M w e)));
  pruned = by_steps leads_uncut N v v refl (λ s. (stays s).1);
  filled = by_steps leads_filled N v v refl (λ s. (stays s).2);
}
