-- Validity level by level says the same as: no place has a fault.
use Rattle.std.proofs.Common.{◌≡◌, ℕ, zero, suc, List, [], ◌∷◌, ◌++◌, Bool, true, false, Option, Some, None, refl, ap, sym, ◌∙◌, subst, inl, inr}
use Rattle.std.specs.Prelude.{option_map, not, ◌&&◌, ◌||◌, is_some, is_none}
use Rattle.std.specs.Str.{bytes_eq}
use Rattle.std.proofs.lemmas.Bool.{and_parts, and_from, and_right, or_parts, or_from, not-true, not-false, false_from_ne_true}
use Rattle.std.proofs.lemmas.Option.{same_Some}
use Rattle.schema.specs.declared.node.ScalarKind.{ScalarKind}
use Rattle.schema.specs.declared.node.ScalarKind.TheVariants.{Boolean, Integer, Number, String, IntOrString}
use Rattle.jtree.specs.Data.{Data, Items, no_items, item, Members, no_members, member, IsTree, AreTrees, AreMembers}
use Rattle.jtree.specs.Data as tree
use Rattle.jtree.specs.Path.{Step, name, index, Path, member_at, item_at, part_by}
use Rattle.jtree.specs.Internal.Lookups.{bool_cases, option_cases, same_name, own_name, member_first, member_tail}
use Rattle.schema.specs.Rules.Keywords.{any_item}
use Rattle.schema.specs.Nodes.Node.{Node, node, scalar, object, map, list, open_, Fields, no_fields, field, Validations, validations, IsNode, AreOrdered}
use Rattle.schema.specs.Nodes.ByPlace.{Declared, field_at}
use Rattle.schema.specs.declared.node.Bounds.{Bounds}
use Rattle.schema.specs.declared.node.Constraints.{Constraints}
use Rattle.stored.specs.Objects.Parts.{pair, at, part_of, leads}
use Rattle.stored.specs.Objects.Tests.{accepts_scalar, fails_enum, fails_minimum, fails_maximum, fails_least_length, fails_most_length, meets_constraints, meets_branch, holds, meets_junctors}
use Rattle.stored.specs.Objects.Fault.{Test, F01, F02, F03, F04, F05, F06, F07, F08, F09, F10, F11, F12, F13, F14, is_null, members_count, constraints_of, refuses_null, fails_scalar, fails_items, fails_members, are_few, are_many, fails, is_required, lacks_name, has_alike_before, any_before, are_alike, repeats, finds, IsValid}
use Rattle.stored.specs.Objects.Becomes.{is_nullable}
use Rattle.stored.specs.Objects.StoredByParts.{IsWithin, are_apart, IsValidHere}
use Rattle.stored.specs.Internal.ValidByLevel.{is_within, has_required, true_if_any, is_valid, are_fields_valid, are_values_valid, are_items_valid}
use Rattle.stored.proofs.FieldLemmas.{later_field, field_node}
use Rattle.stored.proofs.PartLemmas.{Everywhere, never_free, kept_everywhere, holds_below}

-- ---- below a step

some_valid : (o : Option Declared) (d : Data) (M : Node) (w : Data) → true_if_any (option_map (λ f. is_valid f.node d) o) ≡ true
    → part_of (option_map (λ f. f.node) o) d ≡ at M w → is_valid M w ≡ true
some_valid None d M w h e = cc
some_valid (Some f) d M w h e = cc

field_valid : (fs : Fields) (ms : Members) (k : List ℕ) (M : Node) (w : Data) → are_fields_valid fs ms ≡ true
    → option_map (part_of (option_map (λ f. f.node) (field_at k fs))) (member_at k ms) ≡ Some (at M w) → is_valid M w ≡ true
field_valid fs no_members k M w h e = cc
field_valid fs (member l d ms) k M w h e = let both = and_parts _ _ h in elim (bool_cases (bytes_eq k l)) [
  | inl t ↦
      let e' = rw t at e in
      some_valid (field_at l fs) d M w both.0 (subst (λ n. part_of (option_map (λ f. f.node) (field_at n fs)) d ≡ at M w) (same_name k l t) (same_Some (part_of (option_map (λ f. f.node) (field_at k fs)) d) (at M w) e'))
  | inr f ↦ field_valid fs ms k M w both.1 (rw f at e)
]

value_valid : (N : Node) (ms : Members) (k : List ℕ) (M : Node) (w : Data) → are_values_valid N ms ≡ true
    → option_map (part_of (Some N)) (member_at k ms) ≡ Some (at M w) → is_valid M w ≡ true
value_valid N no_members k M w h e = cc
value_valid N (member l d ms) k M w h e = let both = and_parts _ _ h in elim (bool_cases (bytes_eq k l)) [
  | inl t ↦ let e' = rw t at e in some_valid (Some (record { node = N; required = false; default = None })) d M w both.0 (same_Some (at N d) (at M w) e')
  | inr f ↦ value_valid N ms k M w both.1 (rw f at e)
]

item_valid : (N : Node) (ds : Items) (i : ℕ) (M : Node) (w : Data) → are_items_valid N ds ≡ true
    → option_map (part_of (Some N)) (item_at i ds) ≡ Some (at M w) → is_valid M w ≡ true
item_valid N no_items i M w h e = cc
item_valid N (item d ds) zero M w h e = some_valid (Some (record { node = N; required = false; default = None })) d M w (and_parts _ _ h).0 (same_Some (at N d) (at M w) e)
item_valid N (item d ds) (suc i) M w h e = item_valid N ds i M w (and_parts _ _ h).1 e

-- what is asked of an object with declared fields, one by one
object_parts : (fs : Fields) (b : Bounds) (cs : Validations) (ms : Members)
    → (is_within b (members_count ms) && (meets_junctors cs (tree.object ms) && (has_required fs ms && are_fields_valid fs ms))) ≡ true
    → (is_within b (members_count ms) ≡ true) × (meets_junctors cs (tree.object ms) ≡ true) × (has_required fs ms ≡ true) × (are_fields_valid fs ms ≡ true)
object_parts fs b cs ms h =
    let rest = and_parts (is_within b (members_count ms)) (meets_junctors cs (tree.object ms) && (has_required fs ms && are_fields_valid fs ms)) h in
    let last = and_parts (meets_junctors cs (tree.object ms)) (has_required fs ms && are_fields_valid fs ms) rest.1 in
    let fields = and_parts (has_required fs ms) (are_fields_valid fs ms) last.1 in
    (rest.0, last.0, fields.0, fields.1)

valid_below : (N : Node) (v : Data) (s : Step) (M : Node) (w : Data) → is_valid N v ≡ true → leads N v s ≡ Some (at M w) → is_valid M w ≡ true
valid_below (node nullable description (object fs preserves type bounds cs)) (tree.object ms) (name k) M w h e =
    field_valid fs ms k M w (object_parts fs bounds cs ms h).3 e
valid_below (node nullable description (map N type bounds)) (tree.object ms) (name k) M w h e = value_valid N ms k M w (and_parts _ _ h).1 e
valid_below (node nullable description (list N type keys bounds)) (tree.list ds) (index i) M w h e =
    item_valid N ds i M w (and_parts _ _ (and_parts _ _ h).1).1 e
valid_below N v s M w h e = absurd (never_free (part_by v s) M w e)

-- ---- what a value passes, where it passes what its node asks of it

null_is_no_scalar : (kind : ScalarKind) → accepts_scalar kind tree.null ≡ false
null_is_no_scalar Boolean = refl
null_is_no_scalar Integer = refl
null_is_no_scalar String = refl
null_is_no_scalar Number = refl
null_is_no_scalar IntOrString = refl

-- of a scalar node: what does not fail where the branch holds
passes_scalar : (test : Validations → Data → Bool) → ((kind : ScalarKind) (cs : Validations) (v : Data) → accepts_scalar kind v ≡ true → holds cs v ≡ true → test cs v ≡ false) → (N : Node) (v : Data)
    → IsValidHere N v → fails_scalar test N v ≡ false
passes_scalar test p (node nullable description (scalar kind cs)) tree.null h = rw (null_is_no_scalar kind) refl
passes_scalar test p (node nullable description (scalar kind cs)) v h = and_right _ _ (p kind cs v h.0 h.1)
passes_scalar test p N v h = refl

passes_items : (test : Bounds → ℕ → Bool) → ((b : Bounds) (n : ℕ) → IsWithin b n → test b n ≡ false) → (N : Node) (v : Data)
    → IsValidHere N v → fails_items test N v ≡ false
passes_items test p (node nullable description (list N type keys bounds)) (tree.list ds) h = p bounds _ h.0
passes_items test p N v h = refl

passes_members : (test : Bounds → ℕ → Bool) → ((b : Bounds) (n : ℕ) → IsWithin b n → test b n ≡ false) → (N : Node) (v : Data)
    → IsValidHere N v → fails_members test N v ≡ false
passes_members test p (node nullable description (object fs preserves type bounds cs)) (tree.object ms) h = p bounds _ h.0
passes_members test p (node nullable description (map N type bounds)) (tree.object ms) h = p bounds _ h
passes_members test p N v h = refl

five_parts : (a b c d e : Bool) → (not a && (not b && (not c && (not d && not e)))) ≡ true → (a ≡ false) × (b ≡ false) × (c ≡ false) × (d ≡ false) × (e ≡ false)
five_parts false false false false false h = (refl, refl, refl, refl, refl)
five_parts a b c d e h = cc

-- a scalar is no object
scalar_branch : (kind : ScalarKind) (t : Constraints) (v : Data) → accepts_scalar kind v ≡ true → meets_branch v t ≡ meets_constraints t v
scalar_branch Boolean t (tree.object ms) h = cc
scalar_branch Integer t (tree.object ms) h = cc
scalar_branch Number t (tree.object ms) h = cc
scalar_branch String t (tree.object ms) h = cc
scalar_branch IntOrString t (tree.object ms) h = cc
scalar_branch kind t v h = refl

met : (kind : ScalarKind) (cs : Validations) (v : Data) → accepts_scalar kind v ≡ true → holds cs v ≡ true
    → (fails_enum (constraints_of cs) v ≡ false) × (fails_minimum (constraints_of cs) v ≡ false) × (fails_maximum (constraints_of cs) v ≡ false)
    × (fails_least_length (constraints_of cs) v ≡ false) × (fails_most_length (constraints_of cs) v ≡ false)
met kind (validations t all any one negated) v a h =
    five_parts (fails_enum t v) (fails_minimum t v) (fails_maximum t v) (fails_least_length t v) (fails_most_length t v)
    (sym (scalar_branch kind t v a) ∙ (and_parts _ _ h).0)

junctors_met : (kind : ScalarKind) (cs : Validations) (v : Data) → accepts_scalar kind v ≡ true → holds cs v ≡ true → not (meets_junctors cs v) ≡ false
junctors_met kind (validations t all any one negated) v a h = ap not (and_parts _ _ h).1

-- of an object with declared fields, and of a scalar
passes_junctors : (N : Node) (v : Data) → IsValidHere N v → fails F14 N v ≡ false
passes_junctors (node nullable description (object fs preserves type bounds cs)) tree.null h = refl
passes_junctors (node nullable description (object fs preserves type bounds cs)) (tree.object ms) h = ap not h.1
passes_junctors (node nullable description (object fs preserves type bounds cs)) v h = absurd h
passes_junctors N v h = passes_scalar (λ cs w. not (meets_junctors cs w)) junctors_met N v h

valid_kind : (N : Node) (v : Data) → IsValidHere N v → fails F01 N v ≡ false
valid_kind (node nullable description sort) tree.null h = refl
valid_kind (node nullable description (scalar kind cs)) v h = and_right (not (is_null v)) (not (accepts_scalar kind v)) (ap not h.0)
valid_kind (node nullable description (object fs preserves type bounds cs)) (tree.object ms) h = refl
valid_kind (node nullable description (map N type bounds)) (tree.object ms) h = refl
valid_kind (node nullable description (list N type keys bounds)) (tree.list ds) h = refl
valid_kind (node nullable description open_) v h = refl
valid_kind N v h = absurd h

-- a null is accepted where the node is nullable and no `enum` refuses it
pub null_parts : (N : Node) → IsValidHere N tree.null → (is_nullable N ≡ true) × (refuses_null N ≡ false)
null_parts (node nullable description (scalar kind cs)) h = let both = and_parts _ _ h in (both.0, not-true _ both.1)
null_parts (node nullable description sort) h = (h, refl)

null_from : (N : Node) → is_nullable N ≡ true → refuses_null N ≡ false → IsValidHere N tree.null
null_from (node nullable description (scalar kind cs)) h none = and_from _ _ h (ap not none)
null_from (node nullable description sort) h none = h

valid_null : (N : Node) (v : Data) → IsValidHere N v → fails F02 N v ≡ false
valid_null (node nullable description sort) tree.null h = ap not (null_parts (node nullable description sort) h).0
valid_null (node nullable description sort) v h = refl

valid_choice : (N : Node) (v : Data) → IsValidHere N v → fails F03 N v ≡ false
valid_choice N tree.null h = or_from _ _ (passes_scalar _ (λ k cs w a m. (met k cs w a m).0) N tree.null h) (null_parts N h).1
valid_choice N v h = or_from _ _ (passes_scalar _ (λ k cs w a m. (met k cs w a m).0) N v h) refl

valid_passes : (t : Test) (N : Node) (v : Data) → IsValidHere N v → fails t N v ≡ false
valid_passes F01 N v h = valid_kind N v h
valid_passes F02 N v h = valid_null N v h
valid_passes F03 N v h = valid_choice N v h
valid_passes F04 N v h = passes_scalar _ (λ k cs w a m. (met k cs w a m).1) N v h
valid_passes F05 N v h = passes_scalar _ (λ k cs w a m. (met k cs w a m).2) N v h
valid_passes F06 N v h = passes_scalar _ (λ k cs w a m. (met k cs w a m).3) N v h
valid_passes F07 N v h = passes_scalar _ (λ k cs w a m. (met k cs w a m).4) N v h
valid_passes F08 N v h = passes_items are_few (λ b n w. w.0) N v h
valid_passes F09 N v h = passes_items are_many (λ b n w. w.1) N v h
valid_passes F10 N v h = passes_members are_few (λ b n w. w.0) N v h
valid_passes F11 N v h = passes_members are_many (λ b n w. w.1) N v h
valid_passes F14 N v h = passes_junctors N v h
valid_passes _ N v h = refl

pub unlike : (alike : Data → Data → Bool) (d : Data) (ds : Items) (i : ℕ) (e : Data) → any_item (alike d) ds ≡ false → item_at i ds ≡ Some e → alike d e ≡ false
unlike alike d no_items i e h is = cc
unlike alike d (item x ds) zero e h is = subst (λ y. alike d y ≡ false) (same_Some x e is) (or_parts _ _ h).0
unlike alike d (item x ds) (suc i) e h is = unlike alike d ds i e (or_parts _ _ h).1 is

none_repeats : (alike : Data → Data → Bool) (ds : Items) (i : ℕ) (e : Data) → are_apart alike ds ≡ true → item_at i ds ≡ Some e → any_before (λ d. alike d e) i ds ≡ false
none_repeats alike no_items i e h is = refl
none_repeats alike (item d ds) zero e h is = refl
none_repeats alike (item d ds) (suc i) e h is = let both = and_parts _ _ h in
    or_from _ _ (unlike alike d ds i e (not-true _ both.0) is) (none_repeats alike ds i e both.1 is)

pub no_repeat : (alike : Data → Data → Bool) (ds : Items) (i : ℕ) → are_apart alike ds ≡ true → has_alike_before alike i ds (item_at i ds) ≡ false
no_repeat alike ds i h = elim (option_cases (item_at i ds)) [
  | inl none ↦ rw none refl
  | inr e ↦ rw e.1 (none_repeats alike ds i e.0 h e.1)
]

valid_item : (N : Node) (v : Data) (i : ℕ) → IsValidHere N v → repeats N v i ≡ false
valid_item (node nullable description (list N type keys bounds)) (tree.list ds) i h = no_repeat (are_alike type keys) ds i h.1
valid_item N v i h = refl

abbrev pub FindsNothing : Node → Data → Type 0
FindsNothing N v = (last : Path) (t : Test) → finds N v last t ≡ false

-- so nothing is found, where no name is missing
pub none_found : (N : Node) (v : Data) → IsValidHere N v → ((k : List ℕ) → lacks_name (pair N v) k ≡ false) → FindsNothing N v
none_found N v h names [] t = valid_passes t N v h
none_found N v h names (name k ∷ []) F12 = names k
none_found N v h names (index i ∷ []) F13 = valid_item N v i h
none_found N v h names last t = refl

-- no part of the value is faulty
abbrev pub IsFaultless : Node → Data → Type 0
IsFaultless N v = Everywhere FindsNothing N v

pub no_fault : (N : Node) (v : Data) → IsFaultless N v → IsValid N v
no_fault N v h path t f = let none = h f.before f.node f.value f.leads_there f.last t in let found = f.found in cc

pub faultless : (N : Node) (v : Data) → IsValid N v → IsFaultless N v
faultless N v h path M w is last test = false_from_ne_true (finds M w last test) (λ found.
    h (path ++ last) test (record { before = path; last = last; is = refl; node = M; value = w; leads_there = is; found = found }))

-- ---- a value that is valid level by level

required_stands : (r : Bool) (o : Option Data) → (not r || is_some o) ≡ true → (r && is_none o) ≡ false
required_stands true None h = sym h
required_stands true (Some d) h = refl
required_stands false o h = refl

names_stand : (fs : Fields) (ms : Members) (k : List ℕ) → has_required fs ms ≡ true → (is_required (field_at k fs) && is_none (member_at k ms)) ≡ false
names_stand no_fields ms k h = refl
names_stand (field l N required default fs) ms k h = let both = and_parts _ _ h in elim (bool_cases (bytes_eq k l)) [
  | inl t ↦ rw (t, same_name k l t) (required_stands required (member_at l ms) both.0)
  | inr f ↦ rw f (names_stand fs ms k both.1)
]

valid_name : (N : Node) (v : Data) (k : List ℕ) → is_valid N v ≡ true → lacks_name (pair N v) k ≡ false
valid_name (node nullable description (object fs preserves type bounds cs)) (tree.object ms) k h = names_stand fs ms k (object_parts fs bounds cs ms h).2
valid_name (node nullable description (map N type bounds)) (tree.object ms) k h = refl
valid_name (node nullable description (list N type keys bounds)) (tree.list ds) k h = refl
valid_name N v k h = refl

within : (b : Bounds) (n : ℕ) → is_within b n ≡ true → IsWithin b n
within b n h = let both = and_parts _ _ h in (not-true _ both.0, not-true _ both.1)

valid_here : (N : Node) (v : Data) → is_valid N v ≡ true → IsValidHere N v
valid_here (node nullable description sort) tree.null h = h
valid_here (node nullable description (scalar kind cs)) v h = and_parts _ _ h
valid_here (node nullable description (object fs preserves type bounds cs)) (tree.object ms) h = let all = object_parts fs bounds cs ms h in (within bounds _ all.0, all.1)
valid_here (node nullable description (map N type bounds)) (tree.object ms) h = within bounds _ (and_parts _ _ h).0
valid_here (node nullable description (list N type keys bounds)) (tree.list ds) h = let both = and_parts _ _ h in (within bounds _ both.0, (and_parts _ _ both.1).0)
valid_here (node nullable description open_) v h = tt
valid_here N v h = cc

pub valid_is_faultless : (N : Node) (v : Data) → is_valid N v ≡ true → IsValid N v
valid_is_faultless N v h = no_fault N v (λ path M w is.
    let value = kept_everywhere (λ K u. is_valid K u ≡ true) valid_below N v h path M w is in none_found M w (valid_here M w value) (λ k. valid_name M w k value))

-- ---- a value without faults is valid level by level

pub faultless_below : (N : Node) (v : Data) (s : Step) (M : Node) (w : Data) → IsFaultless N v → leads N v s ≡ Some (at M w) → IsFaultless M w
faultless_below = holds_below FindsNothing

second_false : (a b : Bool) → a ≡ true → (a && b) ≡ false → b ≡ false
second_false a b t e = rw t at e

five_from : (a b c d e : Bool) → a ≡ false → b ≡ false → c ≡ false → d ≡ false → e ≡ false → (not a && (not b && (not c && (not d && not e)))) ≡ true
five_from false false false false false p q r s t = refl
five_from a b c d e p q r s t = cc

holds_from : (nullable : Bool) (description : Option (List ℕ)) (kind : ScalarKind) (cs : Validations) (v : Data) → accepts_scalar kind v ≡ true
    → ((t : Test) → fails t (node nullable description (scalar kind cs)) v ≡ false) → holds cs v ≡ true
holds_from nullable description kind (validations t all any one negated) v a f =
    and_from _ _
    (scalar_branch kind t v a ∙ five_from (fails_enum t v) (fails_minimum t v) (fails_maximum t v) (fails_least_length t v) (fails_most_length t v)
    (second_false _ _ a (or_parts _ _ (f F03)).0) (second_false _ _ a (f F04)) (second_false _ _ a (f F05)) (second_false _ _ a (f F06)) (second_false _ _ a (f F07)))
    (not-false _ (second_false _ _ a (f F14)))

-- of a value that is not null
scalar_valid : (nullable : Bool) (description : Option (List ℕ)) (kind : ScalarKind) (cs : Validations) (v : Data) → not (accepts_scalar kind v) ≡ false
    → ((t : Test) → fails t (node nullable description (scalar kind cs)) v ≡ false) → (accepts_scalar kind v ≡ true) × (holds cs v ≡ true)
scalar_valid nullable description kind cs v k f = let a = not-false _ k in (a, holds_from nullable description kind cs v a f)

stands_if_required : (r : Bool) (o : Option Data) → (r && is_none o) ≡ false → (not r || is_some o) ≡ true
stands_if_required true None h = sym h
stands_if_required true (Some d) h = refl
stands_if_required false o h = refl

names_from : (fs : Fields) (ms : Members) → AreOrdered fs → ((k : List ℕ) → (is_required (field_at k fs) && is_none (member_at k ms)) ≡ false) → has_required fs ms ≡ true
names_from no_fields ms ordered h = refl
names_from (field l N required default fs) ms ordered h =
    and_from _ _ (stands_if_required required (member_at l ms) (rw (own_name l) at (h l)))
    (names_from fs ms ordered.2 (λ k. elim (option_cases (field_at k fs)) [
      | inl none ↦ rw none refl
      | inr f ↦ rw f.1 (rw (later_field k l N required default fs f.0 ordered f.1) at (h k))
    ]))

none_alike : (alike : Data → Data → Bool) (d : Data) (ds : Items) → ((i : ℕ) (e : Data) → item_at i ds ≡ Some e → alike d e ≡ false) → any_item (alike d) ds ≡ false
none_alike alike d no_items h = refl
none_alike alike d (item e ds) h = or_from _ _ (h 0 e refl) (none_alike alike d ds (λ i x is. h (suc i) x is))

apart_from : (alike : Data → Data → Bool) (ds : Items) → ((i : ℕ) (e : Data) → item_at i ds ≡ Some e → any_before (λ d. alike d e) i ds ≡ false) → are_apart alike ds ≡ true
apart_from alike no_items h = refl
apart_from alike (item d ds) h =
    and_from _ _ (ap not (none_alike alike d ds (λ i e is. (or_parts _ _ (h (suc i) e is)).0))) (apart_from alike ds (λ i e is. (or_parts _ _ (h (suc i) e is)).1))

pub here_from : (N : Node) (v : Data) → IsFaultless N v → IsValidHere N v
here_from (node nullable description sort) tree.null h = null_from (node nullable description sort) (not-false _ (h [] _ _ refl [] F02)) (or_parts _ _ (h [] _ _ refl [] F03)).1
here_from (node nullable description (scalar kind cs)) v h = scalar_valid nullable description kind cs v (h [] _ _ refl [] F01) (h [] _ _ refl [])
here_from (node nullable description (object fs preserves type bounds cs)) (tree.object ms) h = ((h [] _ _ refl [] F10, h [] _ _ refl [] F11), not-false _ (h [] _ _ refl [] F14))
here_from (node nullable description (map N type bounds)) (tree.object ms) h = (h [] _ _ refl [] F10, h [] _ _ refl [] F11)
here_from (node nullable description (list N type keys bounds)) (tree.list ds) h =
    ((h [] _ _ refl [] F08, h [] _ _ refl [] F09), apart_from (are_alike type keys) ds (λ i e is. rw is at (h [] _ _ refl (index i ∷ []) F13)))
here_from (node nullable description open_) v h = tt
here_from N v h = let none = h [] N v refl [] F01 in cc

is_within_bounds : (b : Bounds) (n : ℕ) → IsWithin b n → is_within b n ≡ true
is_within_bounds b n w = and_from _ _ (ap not w.0) (ap not w.1)

-- with what the node asks of the value itself, its parts make it valid
mutual
  valid_from : (N : Node) (v : Data) → IsNode N → IsTree v → IsValidHere N v → IsFaultless N v → is_valid N v ≡ true
  valid_from (node nullable description sort) tree.null n t here h = here
  valid_from (node nullable description (scalar kind cs)) v n t here h = and_from _ _ here.0 here.1
  valid_from (node nullable description (object fs preserves type bounds cs)) (tree.object ms) n t here h =
      and_from _ _ (is_within_bounds bounds _ here.0)
      (and_from _ _ here.1 (and_from _ _ (names_from fs ms n (λ k. h [] _ _ refl (name k ∷ []) F12)) (fields_from fs ms n t (λ k f d is found. faultless_below _ _ (name k) f.node d h (rw (is, found) refl)))))
  valid_from (node nullable description (map N type bounds)) (tree.object ms) n t here h =
      and_from _ _ (is_within_bounds bounds _ here) (values_from N ms n t (λ k d found. faultless_below _ _ (name k) N d h (rw found refl)))
  valid_from (node nullable description (list N type keys bounds)) (tree.list ds) n t here h =
      and_from _ _ (is_within_bounds bounds _ here.0) (and_from _ _ here.1 (items_from N ds n t (λ i d found. faultless_below _ _ (index i) N d h (rw found refl))))
  valid_from (node nullable description open_) v n t here h = refl
  valid_from N v n t here h = absurd here

  fields_from : (fs : Fields) (ms : Members) → AreOrdered fs → AreMembers ms
      → ((k : List ℕ) (f : Declared) (d : Data) → field_at k fs ≡ Some f → member_at k ms ≡ Some d → IsFaultless f.node d) → are_fields_valid fs ms ≡ true
  fields_from fs no_members n t h = refl
  fields_from fs (member k d ms) n t h = and_from _ _
      (elim (option_cases (field_at k fs)) [
        | inl none ↦ rw none refl
        | inr f ↦ rw f.1 (let g = h k f.0 d f.1 (member_first k d ms) in valid_from f.0.node d (field_node k fs f.0 n f.1) t.0 (here_from f.0.node d g) g)
      ])
      (fields_from fs ms n t.2 (λ l f e is found. h l f e is (member_tail k d ms l e t found)))

  values_from : (N : Node) (ms : Members) → IsNode N → AreMembers ms → ((k : List ℕ) (d : Data) → member_at k ms ≡ Some d → IsFaultless N d) → are_values_valid N ms ≡ true
  values_from N no_members n t h = refl
  values_from N (member k d ms) n t h = and_from _ _ (let g = h k d (member_first k d ms) in valid_from N d n t.0 (here_from N d g) g) (values_from N ms n t.2 (λ l e is. h l e (member_tail k d ms l e t is)))

  items_from : (N : Node) (ds : Items) → IsNode N → AreTrees ds → ((i : ℕ) (d : Data) → item_at i ds ≡ Some d → IsFaultless N d) → are_items_valid N ds ≡ true
  items_from N no_items n t h = refl
  items_from N (item d ds) n t h = and_from _ _ (valid_from N d n t.0 (here_from N d (h 0 d refl)) (h 0 d refl)) (items_from N ds n t.1 (λ i e is. h (suc i) e is))

pub faultless_is_valid : (N : Node) (v : Data) → IsNode N → IsTree v → IsValid N v → is_valid N v ≡ true
faultless_is_valid N v n t h = let f = faultless N v h in valid_from N v n t (here_from N v f) f
