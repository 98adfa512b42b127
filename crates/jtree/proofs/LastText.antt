-- The compact text of a tree with another last node differs from its own in the text of that node alone.
use Rattle.std.proofs.Common.{◌≡◌, ℕ, List, [], ◌∷◌, ◌++◌, Bool, true, false, refl, sym, ap, ◌∙◌, append_assoc, append-nil, ◌+◌, ◌-◌, ◌<◌, ◌≤◌, length, length-append, arith, Some, None, option_map}
use Rattle.std.specs.List.{slice_get}
use Rattle.std.proofs.lemmas.Option.{same_Some}
use Rattle.json.specs.Print.{quoted}
use Rattle.serde_json.specs.Written.{comma_if}
use Rattle.jtree.specs.Data.{Data, list, object, Items, no_items, item, Members, no_members, member, depth, items_depth, members_depth}
use Rattle.jtree.specs.View.{data_of, items_of, members_of}
use Rattle.jtree.specs.declared.value.Tree.{Tree}
use Rattle.jtree.specs.declared.value.Member.{Member}
use Rattle.jtree.specs.Text.{items_text, members_text, compact}
use Rattle.jtree.specs.Last.{last_of, last_of_items, last_of_members, with_last, items_with_last, members_with_last}
use Rattle.jtree.specs.Internal.LastText.{last_item, last_member, last_part, text_before, items_before, members_before, text_after, items_after, members_after}

regroup_last : (c p v a : List ℕ) (b : ℕ) → c ++ ((p ++ (v ++ a)) ++ b ∷ []) ≡ (c ++ p) ++ (v ++ (a ++ b ∷ []))
regroup_last c p v a b = simp append_assoc

regroup : (c t p x : List ℕ) → c ++ (t ++ (p ++ x)) ≡ (c ++ (t ++ p)) ++ x
regroup c t p x = simp append_assoc

regroup_last_member : (c q p v a : List ℕ) (b : ℕ) → c ++ (q ++ 58 ∷ ((p ++ (v ++ a)) ++ b ∷ [])) ≡ (c ++ (q ++ 58 ∷ p)) ++ (v ++ (a ++ b ∷ []))
regroup_last_member c q p v a b = simp append_assoc

regroup_member : (c q t p x : List ℕ) → c ++ (q ++ 58 ∷ (t ++ (p ++ x))) ≡ (c ++ (q ++ 58 ∷ (t ++ p))) ++ x
regroup_member c q t p x = simp append_assoc

abbrev pub HasItem : Items → Type 0
HasItem no_items = ⊥
HasItem ds = Unit {0}

abbrev pub HasMember : Members → Type 0
HasMember no_members = ⊥
HasMember ms = Unit {0}

mutual
  pub text_with_last : (d v : Data) → compact (with_last d v) ≡ text_before d ++ (compact v ++ text_after d)
  text_with_last (list no_items) v = sym (append-nil (compact v))
  text_with_last (list (item d ds)) v = ap (λ s. 91 ∷ s) (items_text_with_last false (item d ds) tt v)
  text_with_last (object no_members) v = sym (append-nil (compact v))
  text_with_last (object (member k d ms)) v = ap (λ s. 123 ∷ s) (members_text_with_last false (member k d ms) tt v)
  text_with_last _ v = sym (append-nil (compact v))

  items_text_with_last : (later : Bool) (ds : Items) → HasItem ds → (v : Data)
      → items_text later (items_with_last ds v) ≡ items_before later ds ++ (compact v ++ items_after ds)
  items_text_with_last later no_items some v = absurd some
  items_text_with_last later (item d no_items) some v =
      ap (λ s. comma_if later ++ (s ++ 93 ∷ [])) (text_with_last d v) ∙ regroup_last (comma_if later) (text_before d) (compact v) (text_after d) 93
  items_text_with_last later (item d (item e es)) some v =
      ap (λ s. comma_if later ++ (compact d ++ s)) (items_text_with_last true (item e es) tt v)
      ∙ regroup (comma_if later) (compact d) (items_before true (item e es)) (compact v ++ items_after (item e es))

  members_text_with_last : (later : Bool) (ms : Members) → HasMember ms → (v : Data)
      → members_text later (members_with_last ms v) ≡ members_before later ms ++ (compact v ++ members_after ms)
  members_text_with_last later no_members some v = absurd some
  members_text_with_last later (member k d no_members) some v =
      ap (λ s. comma_if later ++ (quoted k ++ 58 ∷ (s ++ 125 ∷ []))) (text_with_last d v)
      ∙ regroup_last_member (comma_if later) (quoted k) (text_before d) (compact v) (text_after d) 125
  members_text_with_last later (member k d (member l e ms)) some v =
      ap (λ s. comma_if later ++ (quoted k ++ 58 ∷ (compact d ++ s))) (members_text_with_last true (member l e ms) tt v)
      ∙ regroup_member (comma_if later) (quoted k) (compact d) (members_before true (member l e ms)) (compact v ++ members_after (member l e ms))

-- ---- one step of the way

item_at_end : (t : Tree) (us : List Tree) → option_map data_of (slice_get (t ∷ us) (length us)) ≡ last_item (items_of (t ∷ us))
item_at_end t [] = refl
item_at_end t (u ∷ us) = item_at_end u us

pub last_item_of : (ts : List Tree) → option_map data_of (slice_get ts (length ts - 1)) ≡ last_item (items_of ts)
last_item_of [] = refl
last_item_of (t ∷ us) = let e : length (t ∷ us) - 1 ≡ length us = omega arith in rw e (item_at_end t us)

member_at_end : (m : Member) (ns : List Member) → option_map (λ n. data_of n.tree) (slice_get (m ∷ ns) (length ns)) ≡ last_member (members_of (m ∷ ns))
member_at_end m [] = refl
member_at_end m (n ∷ ns) = member_at_end n ns

pub last_member_of : (ms : List Member) → option_map (λ m. data_of m.tree) (slice_get ms (length ms - 1)) ≡ last_member (members_of ms)
last_member_of [] = refl
last_member_of (m ∷ ns) = let e : length (m ∷ ns) - 1 ≡ length ns = omega arith in rw e (member_at_end m ns)

-- what a step leaves: the same last node, one byte less after its text, and a tree that nests less deep
pub last_item_same : (ds : Items) (part : Data) → last_item ds ≡ Some part → last_of_items ds ≡ last_of part
last_item_same no_items part e = cc
last_item_same (item d no_items) part e = ap last_of (same_Some d part e)
last_item_same (item d (item f fs)) part e = last_item_same (item f fs) part e

last_member_same : (ms : Members) (part : Data) → last_member ms ≡ Some part → last_of_members ms ≡ last_of part
last_member_same no_members part e = cc
last_member_same (member k d no_members) part e = ap last_of (same_Some d part e)
last_member_same (member k d (member l f ms)) part e = last_member_same (member l f ms) part e

pub last_part_same : (d part : Data) → last_part d ≡ Some part → last_of d ≡ last_of part
last_part_same (list ds) part e = last_item_same ds part e
last_part_same (object ms) part e = last_member_same ms part e
last_part_same _ part e = cc

one_after : (d part : Data) (b : ℕ) → Some d ≡ Some part → length (text_after d ++ b ∷ []) ≡ length (text_after part) + 1
one_after d part b e = length-append (text_after d) (b ∷ []) ∙ ap (λ x. length (text_after x) + 1) (same_Some d part e)

last_item_after : (ds : Items) (part : Data) → last_item ds ≡ Some part → length (items_after ds) ≡ length (text_after part) + 1
last_item_after no_items part e = cc
last_item_after (item d no_items) part e = one_after d part 93 e
last_item_after (item d (item f fs)) part e = last_item_after (item f fs) part e

last_member_after : (ms : Members) (part : Data) → last_member ms ≡ Some part → length (members_after ms) ≡ length (text_after part) + 1
last_member_after no_members part e = cc
last_member_after (member k d no_members) part e = one_after d part 125 e
last_member_after (member k d (member l f ms)) part e = last_member_after (member l f ms) part e

pub last_part_after : (d part : Data) → last_part d ≡ Some part → length (text_after d) ≡ length (text_after part) + 1
last_part_after (list ds) part e = last_item_after ds part e
last_part_after (object ms) part e = last_member_after ms part e
last_part_after _ part e = cc

last_item_depth : (ds : Items) (part : Data) → last_item ds ≡ Some part → depth part ≤ items_depth ds
last_item_depth no_items part e = cc
last_item_depth (item d no_items) part e = omega (arith, ap depth (same_Some d part e))
last_item_depth (item d (item f fs)) part e = omega (arith, last_item_depth (item f fs) part e)

last_member_depth : (ms : Members) (part : Data) → last_member ms ≡ Some part → depth part ≤ members_depth ms
last_member_depth no_members part e = cc
last_member_depth (member k d no_members) part e = omega (arith, ap depth (same_Some d part e))
last_member_depth (member k d (member l f ms)) part e = omega (arith, last_member_depth (member l f ms) part e)

pub last_part_depth : (d part : Data) → last_part d ≡ Some part → depth part < depth d
last_part_depth (list ds) part e = omega (arith, last_item_depth ds part e)
last_part_depth (object ms) part e = omega (arith, last_member_depth ms part e)
last_part_depth _ part e = cc

some_item : (d : Data) (ds : Items) → last_item (item d ds) ≡ None → ⊥
some_item d no_items e = cc
some_item d (item f fs) e = some_item f fs e

some_member : (k : List ℕ) (d : Data) (ms : Members) → last_member (member k d ms) ≡ None → ⊥
some_member k d no_members e = cc
some_member k d (member l f ms) e = some_member l f ms e

-- where there is no step to go
pub last_itself : (d : Data) → last_part d ≡ None → (last_of d ≡ d) × (text_after d ≡ [])
last_itself (list no_items) e = (refl, refl)
last_itself (list (item d ds)) e = absurd (some_item d ds e)
last_itself (object no_members) e = (refl, refl)
last_itself (object (member k d ms)) e = absurd (some_member k d ms e)
last_itself _ e = (refl, refl)
