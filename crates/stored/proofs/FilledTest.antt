-- The test by levels says whether defaulting leaves a value as it is.
use Rattle.std.proofs.Common.{◌≡◌, ℕ, zero, suc, List, [], ◌∷◌, true, Option, Some, None, refl, sym, subst, inl, inr}
use Rattle.std.specs.Prelude.{option_map, option_and_then}
use Rattle.std.specs.Str.{bytes_eq}
use Rattle.std.proofs.lemmas.Bool.{and_parts, and_from}
use Rattle.std.proofs.lemmas.Option.{same_Some}
use Rattle.jtree.specs.Data.{Data, Items, no_items, item, Members, no_members, member, IsTree, AreTrees, AreMembers}
use Rattle.jtree.specs.Data as tree
use Rattle.jtree.specs.Path.{Step, name, index, Path, member_at, item_at, part_at}
use Rattle.jtree.specs.Internal.Lookups.{bool_cases, option_cases, same_name, own_name, member_first, member_tail}
use Rattle.schema.specs.Nodes.Node.{Node, node, scalar, object, map, list, open_, Fields, no_fields, field, IsNode, AreOrdered}
use Rattle.schema.specs.Nodes.ByPlace.{Declared, field_at}
use Rattle.stored.specs.Objects.Parts.{at, value_of, part_by_path}
use Rattle.stored.specs.Objects.Becomes.{Label, label, leads_filled, filled_under, admitted, is_nullable, or_default, IsFilled}
use Rattle.stored.specs.Objects.Becomes as labels
use Rattle.stored.specs.Internal.FilledTest.{is_null_default, stays, all_values, all_items, is_filled, are_fields_filled}
use Rattle.stored.proofs.BecomingLemmas.{free_stays}
use Rattle.stored.proofs.FilledParts.{whole_filled}
use Rattle.stored.proofs.FieldLemmas.{later_field}

-- the value is at the path as it is to be
abbrev StaysAt : Node → Data → Path → Type 0
StaysAt N v path = option_map label (part_at v path) ≡ option_map (λ q. label (value_of q)) (part_by_path leads_filled (at N v) path)

-- and so is what is under a name, with a default there
abbrev StaysUnder : Node → Option Data → Option Data → Path → Type 0
StaysUnder N default y path =
    option_map label (option_and_then (λ d. part_at d path) y) ≡ option_map (λ q. label (value_of q)) (option_and_then (λ q. part_by_path leads_filled q path) (option_map (at N) (or_default (admitted N y) default)))

null_filled : (N : Node) → is_filled N tree.null ≡ true
null_filled (node nullable description (scalar kind cs)) = refl
null_filled (node nullable description (object fs preserves type bounds cs)) = refl
null_filled (node nullable description (map N type bounds)) = refl
null_filled (node nullable description (list N type keys bounds)) = refl
null_filled (node nullable description open_) = refl

null_default : (default : Option Data) → is_null_default default ≡ true → default ≡ Some tree.null
null_default (Some tree.null) e = refl
null_default _ e = cc

-- ---- what passes stays

under_stays : (N : Node) (default y : Option Data) (path : Path) → stays (is_nullable N) default (λ v. is_filled N v) y ≡ true
    → ((w : Data) → is_filled N w ≡ true → StaysAt N w path) → StaysUnder N default y path
under_stays N None None path h each = refl
under_stays N (Some d) None path h each = cc
under_stays N default (Some tree.null) path h each = elim (bool_cases (is_nullable N)) [
  | inl t ↦ rw t (each tree.null (null_filled N))
  | inr f ↦ let none = null_default default (rw f at h) in rw (f, none) (each tree.null (null_filled N))
]
under_stays N default (Some v) path h each = each v h

field_stays : (fs : Fields) (ms : Members) (k : List ℕ) (f : Declared) → are_fields_filled fs ms ≡ true → field_at k fs ≡ Some f
    → stays (is_nullable f.node) f.default (λ v. is_filled f.node v) (member_at k ms) ≡ true
field_stays no_fields ms k f h is = cc
field_stays (field l N required default fs) ms k f h is = let both = and_parts _ _ h in elim (bool_cases (bytes_eq k l)) [
  | inl t ↦
      let same = same_Some (record { node = N; required = required; default = default }) f (rw t at is) in
      subst (λ g. stays (is_nullable g.node) g.default (λ v. is_filled g.node v) (member_at k ms) ≡ true) same
      (subst (λ n. stays (is_nullable N) default (λ v. is_filled N v) (member_at n ms) ≡ true) (sym (same_name k l t)) both.0)
  | inr o ↦ field_stays fs ms k f both.1 (rw o at is)
]

value_stays : (N : Node) (ms : Members) (k : List ℕ) → all_values (λ v. stays (is_nullable N) None (λ w. is_filled N w) (Some v)) ms ≡ true
    → stays (is_nullable N) None (λ w. is_filled N w) (member_at k ms) ≡ true
value_stays N no_members k h = refl
value_stays N (member l d ms) k h = let both = and_parts _ _ h in elim (bool_cases (bytes_eq k l)) [
  | inl t ↦ rw t both.0
  | inr o ↦ rw o (value_stays N ms k both.1)
]

item_stays : (N : Node) (ds : Items) (i : ℕ) (d : Data) → all_items (λ v. is_filled N v) ds ≡ true → item_at i ds ≡ Some d → is_filled N d ≡ true
item_stays N no_items i d h is = cc
item_stays N (item e ds) zero d h is = subst (λ v. is_filled N v ≡ true) (same_Some e d is) (and_parts _ _ h).0
item_stays N (item e ds) (suc i) d h is = item_stays N ds i d (and_parts _ _ h).1 is

or_none : (v : Option Data) → or_default v None ≡ v
or_none None = refl
or_none (Some d) = refl

step_stays : (N : Node) (v : Data) (s : Step) (path : Path) → is_filled N v ≡ true → ((M : Node) (w : Data) → is_filled M w ≡ true → StaysAt M w path) → StaysAt N v (s ∷ path)
step_stays (node nullable description (object fs preserves type bounds cs)) (tree.object ms) (name k) path h each = elim (option_cases (field_at k fs)) [
  | inl none ↦ rw none (free_stays leads_filled (member_at k ms) path)
  | inr f ↦ rw f.1 (under_stays f.0.node f.0.default (member_at k ms) path (field_stays fs ms k f.0 h f.1) (each f.0.node))
]
step_stays (node nullable description (map M type bounds)) (tree.object ms) (name k) path h each =
    rw or_none at (under_stays M None (member_at k ms) path (value_stays M ms k h) (each M))
step_stays (node nullable description (list M type keys bounds)) (tree.list ds) (index i) path h each = elim (option_cases (item_at i ds)) [
  | inl none ↦ rw none refl
  | inr d ↦ rw d.1 (each M d.0 (item_stays M ds i d.0 h d.1))
]
step_stays (node nullable description (object fs preserves type bounds cs)) (tree.object ms) (index i) path h each = refl
step_stays (node nullable description (map M type bounds)) (tree.object ms) (index i) path h each = refl
step_stays (node nullable description (list M type keys bounds)) (tree.list ds) (name k) path h each = refl
step_stays N v s path h each = whole_filled N v refl (s ∷ path)

stays_at : (path : Path) (N : Node) (v : Data) → is_filled N v ≡ true → StaysAt N v path
stays_at [] N v h = refl
stays_at (s ∷ path) N v h = step_stays N v s path h (λ M w. stays_at path M w)

pub passed_is_filled : (N : Node) (v : Data) → is_filled N v ≡ true → IsFilled N v v
passed_is_filled N v h path = stays_at path N v h

-- ---- what stays passes

null_stays : (N : Node) (default : Option Data)
    → ◌≡◌ {A = Option Label} (Some labels.null) (option_map (λ q. label (value_of q)) (option_and_then (λ q. part_by_path leads_filled q []) (option_map (at N) default)))
    → is_null_default default ≡ true
null_stays N None e = cc
null_stays N (Some tree.null) e = refl
null_stays N (Some d) e = cc

under_passes : (N : Node) (default y : Option Data) → ((path : Path) → StaysUnder N default y path) → ((w : Data) → y ≡ Some w → IsFilled N w w → is_filled N w ≡ true)
    → stays (is_nullable N) default (λ v. is_filled N v) y ≡ true
under_passes N None None h each = refl
under_passes N (Some d) None h each = let e = h [] in cc
under_passes N default (Some tree.null) h each = elim (bool_cases (is_nullable N)) [
  | inl t ↦ rw t refl
  | inr f ↦ rw f (null_stays N default (rw f at (h [])))
]
under_passes N default (Some v) h each = each v refl h

member_tree : (ms : Members) (k : List ℕ) (d : Data) → AreMembers ms → member_at k ms ≡ Some d → IsTree d
member_tree no_members k d t is = cc
member_tree (member l e ms) k d t is = elim (bool_cases (bytes_eq k l)) [
  | inl here ↦ subst IsTree (same_Some e d (rw here at is)) t.0
  | inr other ↦ member_tree ms k d t.2 (rw other at is)
]

values_pass : (M : Node) (ms : Members) → AreMembers ms → ((k : List ℕ) (d : Data) → member_at k ms ≡ Some d → (path : Path) → StaysUnder M None (Some d) path)
    → ((w : Data) → IsTree w → IsFilled M w w → is_filled M w ≡ true) → all_values (λ v. stays (is_nullable M) None (λ w. is_filled M w) (Some v)) ms ≡ true
values_pass M no_members t h each = refl
values_pass M (member k d ms) t h each = and_from _ _
    (under_passes M None (Some d) (h k d (member_first k d ms)) (λ w is. each w (subst IsTree (same_Some d w is) t.0)))
    (values_pass M ms t.2 (λ l e is. h l e (member_tail k d ms l e t is)) each)

items_pass : (M : Node) (ds : Items) → AreTrees ds → ((i : ℕ) (d : Data) → item_at i ds ≡ Some d → IsFilled M d d)
    → ((w : Data) → IsTree w → IsFilled M w w → is_filled M w ≡ true) → all_items (λ v. is_filled M v) ds ≡ true
items_pass M no_items t h each = refl
items_pass M (item d ds) t h each = and_from _ _ (each d t.0 (h 0 d refl)) (items_pass M ds t.1 (λ i e is. h (suc i) e is) each)

mutual
  filled_passes : (N : Node) (v : Data) → IsNode N → IsTree v → IsFilled N v v → is_filled N v ≡ true
  filled_passes (node nullable description (object fs preserves type bounds cs)) (tree.object ms) n t h =
      fields_pass fs ms n t (λ k f is path. rw is at (h (name k ∷ path)))
  filled_passes (node nullable description (map M type bounds)) (tree.object ms) n t h =
      values_pass M ms t (λ k d is path. rw or_none (rw is at (h (name k ∷ path)))) (λ w tw f. filled_passes M w n tw f)
  filled_passes (node nullable description (list M type keys bounds)) (tree.list ds) n t h =
      items_pass M ds t (λ i d is path. rw is at (h (index i ∷ path))) (λ w tw f. filled_passes M w n tw f)
  filled_passes N v n t h = refl

  fields_pass : (fs : Fields) (ms : Members) → AreOrdered fs → AreMembers ms
      → ((k : List ℕ) (f : Declared) → field_at k fs ≡ Some f → (path : Path) → StaysUnder f.node f.default (member_at k ms) path) → are_fields_filled fs ms ≡ true
  fields_pass no_fields ms n t h = refl
  fields_pass (field l M required default fs) ms n t h = and_from _ _
      (under_passes M default (member_at l ms) (h l (record { node = M; required = required; default = default }) (rw (own_name l) refl)) (λ w is. filled_passes M w n.0 (member_tree ms l w t is)))
      (fields_pass fs ms n.2 t (λ k f is. h k f (later_field k l M required default fs f n is)))

pub filled_is_passed : (N : Node) (v : Data) → IsNode N → IsTree v → IsFilled N v v → is_filled N v ≡ true
filled_is_passed N v n t h = filled_passes N v n t h
