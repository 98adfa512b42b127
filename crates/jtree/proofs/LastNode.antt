-- The tree with another one in place of its last node: where the code puts it, what stays, and the laws.
use Rattle.std.proofs.Common.{◌≡◌, ℕ, List, [], ◌∷◌, Ok, Err, refl, sym, ap, ◌∙◌, subst, ◌+◌, ◌-◌, ◌≤◌, length, slice_index_or, slice_set, OnOk, OnErr, Result, ◌==◌, true, false, arith}
use Rattle.jtree.specs.Data.{Data, list, object, Items, no_items, item, Members, no_members, member, IsTree, AreTrees, AreMembers, IsNameBefore}
use Rattle.jtree.specs.Nodes.{node_count, items_count, members_count}
use Rattle.jtree.specs.View.{data_of, items_of, members_of}
use Rattle.jtree.specs.declared.value.Tree.{Tree}
use Rattle.jtree.specs.declared.value.Member.{Member}
use Rattle.jtree.specs.Last.{last_of, last_of_items, last_of_members, last_depth, items_last_depth, members_last_depth, with_last, items_with_last, members_with_last}

-- a tree is itself with its own last node
mutual
  pub with_own_last : (d : Data) → with_last d (last_of d) ≡ d
  with_own_last (list no_items) = refl
  with_own_last (list (item d ds)) = ap list (items_with_own_last (item d ds))
  with_own_last (object no_members) = refl
  with_own_last (object (member k d ms)) = ap object (members_with_own_last (member k d ms))
  with_own_last _ = refl

  items_with_own_last : (ds : Items) → items_with_last ds (last_of_items ds) ≡ ds
  items_with_own_last no_items = refl
  items_with_own_last (item d no_items) = ap (λ e. item e no_items) (with_own_last d)
  items_with_own_last (item d (item e es)) = ap (item d) (items_with_own_last (item e es))

  members_with_own_last : (ms : Members) → members_with_last ms (last_of_members ms) ≡ ms
  members_with_own_last no_members = refl
  members_with_own_last (member k d no_members) = ap (λ e. member k e no_members) (with_own_last d)
  members_with_own_last (member k d (member l e ms)) = ap (member k d) (members_with_own_last (member l e ms))

-- ---- where the code puts it

item_put : (t : Tree) (us : List Tree) (u d : Tree) (v : Data) → d ≡ slice_index_or (t ∷ us) (length us) d → data_of u ≡ with_last (data_of d) v
    → items_of (slice_set (t ∷ us) (length us) u) ≡ items_with_last (items_of (t ∷ us)) v
item_put t [] u d v here e = ap (λ x. item x no_items) (e ∙ ap (λ x. with_last (data_of x) v) here)
item_put t (x ∷ us) u d v here e = ap (item (data_of t)) (item_put x us u d v here e)

pub item_put_last : (ts : List Tree) (n : ℕ) (u d : Tree) (v : Data) → n ≡ length ts → d ≡ slice_index_or ts (n - 1) d → data_of u ≡ with_last (data_of d) v
    → items_of (slice_set ts (n - 1) u) ≡ items_with_last (items_of ts) v
item_put_last [] n u d v size here e = refl
item_put_last (t ∷ us) n u d v size here e = let last : n - 1 ≡ length us = omega arith in rw last (item_put t us u d v (rw last at here) e)

member_put : (m : Member) (ns : List Member) (u : Tree) (d : Member) (v : Data) → d ≡ slice_index_or (m ∷ ns) (length ns) d → data_of u ≡ with_last (data_of d.tree) v
    → members_of (slice_set (m ∷ ns) (length ns) (record { name = d.name; tree = u })) ≡ members_with_last (members_of (m ∷ ns)) v
member_put m [] u d v here e = ap (λ x. member d.name x no_members) e ∙ ap (λ (x : Member). member x.name (with_last (data_of x.tree) v) no_members) here
member_put m (n ∷ ns) u d v here e = ap (member m.name (data_of m.tree)) (member_put n ns u d v here e)

pub member_put_last : (ms : List Member) (n : ℕ) (u : Tree) (d : Member) (v : Data) → n ≡ length ms → d ≡ slice_index_or ms (n - 1) d → data_of u ≡ with_last (data_of d.tree) v
    → members_of (slice_set ms (n - 1) (record { name = d.name; tree = u })) ≡ members_with_last (members_of ms) v
member_put_last [] n u d v size here e = refl
member_put_last (m ∷ ns) n u d v size here e = let last : n - 1 ≡ length ns = omega arith in rw last (member_put m ns u d v (rw last at here) e)

-- where there is an item or a member, the last node is in the last one
pub list_put : {T E : Type 0} (r : Result T E) (ts : List Tree) (n : ℕ) (es : Items) (v : Data) → n ≡ length ts → false ≡ (n == 0)
    → OnOk r (es ≡ items_with_last (items_of ts) v) → OnOk r (list es ≡ with_last (list (items_of ts)) v)
list_put (Ok x) [] n es v size some ok = let none : false ≡ true = rw size at some in cc
list_put (Ok x) (t ∷ us) n es v size some ok = ap list ok
list_put (Err x) ts n es v size some ok = ok

pub object_put : {T E : Type 0} (r : Result T E) (ms : List Member) (n : ℕ) (ns : Members) (v : Data) → n ≡ length ms → false ≡ (n == 0)
    → OnOk r (ns ≡ members_with_last (members_of ms) v) → OnOk r (object ns ≡ with_last (object (members_of ms)) v)
object_put (Ok x) [] n ns v size some ok = let none : false ≡ true = rw size at some in cc
object_put (Ok x) (m ∷ us) n ns v size some ok = ap object ok
object_put (Err x) ms n ns v size some ok = ok

-- ---- what stays

name_stays : (k l : List ℕ) (e : Data) (ms : Members) (v : Data) → IsNameBefore k (member l e ms) → IsNameBefore k (members_with_last (member l e ms) v)
name_stays k l e no_members v b = b
name_stays k l e (member j f ms) v b = b

mutual
  tree_stays : (d v : Data) → IsTree d → IsTree v → IsTree (with_last d v)
  tree_stays (list no_items) v d t = t
  tree_stays (list (item e es)) v d t = trees_stay (item e es) v d t
  tree_stays (object no_members) v d t = t
  tree_stays (object (member k e ms)) v d t = members_stay (member k e ms) v d t
  tree_stays _ v d t = t

  trees_stay : (ds : Items) (v : Data) → AreTrees ds → IsTree v → AreTrees (items_with_last ds v)
  trees_stay no_items v d t = d
  trees_stay (item e no_items) v d t = (tree_stays e v d.0 t, d.1)
  trees_stay (item e (item f fs)) v d t = (d.0, trees_stay (item f fs) v d.1 t)

  members_stay : (ms : Members) (v : Data) → AreMembers ms → IsTree v → AreMembers (members_with_last ms v)
  members_stay no_members v d t = d
  members_stay (member k e no_members) v d t = (tree_stays e v d.0 t, tt, tt)
  members_stay (member k e (member l f ms)) v d t = (d.0, name_stays k l f ms v d.1, members_stay (member l f ms) v d.2 t)

pub items_put : {T E : Type 0} (r : Result T E) (ds es : Items) (v : Data) → AreTrees ds → IsTree v
    → OnOk r (es ≡ items_with_last ds v) → OnErr r (es ≡ ds) → AreTrees es
items_put (Ok x) ds es v d t ok err = subst AreTrees (sym ok) (trees_stay ds v d t)
items_put (Err x) ds es v d t ok err = subst AreTrees (sym err) d

pub members_put : {T E : Type 0} (r : Result T E) (ms ns : Members) (v : Data) → AreMembers ms → IsTree v
    → OnOk r (ns ≡ members_with_last ms v) → OnErr r (ns ≡ ms) → AreMembers ns
members_put (Ok x) ms ns v d t ok err = subst AreMembers (sym ok) (members_stay ms v d t)
members_put (Err x) ms ns v d t ok err = subst AreMembers (sym err) d

-- ---- the laws

counts_one : (d : Data) → 1 ≤ node_count d
counts_one (list ds) = omega arith
counts_one (object ms) = omega arith
counts_one _ = omega arith

-- a node of count 1 is its own last node
one_replaced : (v w : Data) → node_count v ≡ 1 → with_last v w ≡ w
one_replaced (list no_items) w one = refl
one_replaced (list (item d ds)) w one = absurd (omega (arith, counts_one d))
one_replaced (object no_members) w one = refl
one_replaced (object (member k d ms)) w one = absurd (omega (arith, counts_one d))
one_replaced _ w one = refl

mutual
  pub again : (d v w : Data) → node_count v ≡ 1 → with_last (with_last d v) w ≡ with_last d w
  again (list no_items) v w one = one_replaced v w one
  again (list (item d no_items)) v w one = ap list (items_again (item d no_items) v w one)
  again (list (item d (item e es))) v w one = ap list (items_again (item d (item e es)) v w one)
  again (object no_members) v w one = one_replaced v w one
  again (object (member k d no_members)) v w one = ap object (members_again (member k d no_members) v w one)
  again (object (member k d (member l e ms))) v w one = ap object (members_again (member k d (member l e ms)) v w one)
  again _ v w one = one_replaced v w one

  items_again : (ds : Items) (v w : Data) → node_count v ≡ 1 → items_with_last (items_with_last ds v) w ≡ items_with_last ds w
  items_again no_items v w one = refl
  items_again (item d no_items) v w one = ap (λ x. item x no_items) (again d v w one)
  items_again (item d (item e no_items)) v w one = ap (item d) (items_again (item e no_items) v w one)
  items_again (item d (item e (item f fs))) v w one = ap (item d) (items_again (item e (item f fs)) v w one)

  members_again : (ms : Members) (v w : Data) → node_count v ≡ 1 → members_with_last (members_with_last ms v) w ≡ members_with_last ms w
  members_again no_members v w one = refl
  members_again (member k d no_members) v w one = ap (λ x. member k x no_members) (again d v w one)
  members_again (member k d (member l e no_members)) v w one = ap (member k d) (members_again (member l e no_members) v w one)
  members_again (member k d (member l e (member j f ms))) v w one = ap (member k d) (members_again (member l e (member j f ms)) v w one)

mutual
  pub count_with : (d v : Data) → node_count (with_last d v) + 1 ≡ node_count d + node_count v
  count_with (list no_items) v = omega arith
  count_with (list (item d ds)) v = let h = items_count_with (item d ds) v (λ e. cc) in omega (arith, h)
  count_with (object no_members) v = omega arith
  count_with (object (member k d ms)) v = let h = members_count_with (member k d ms) v (λ e. cc) in omega (arith, h)
  count_with _ v = omega arith

  items_count_with : (ds : Items) (v : Data) → (ds ≡ no_items → ⊥) → items_count (items_with_last ds v) + 1 ≡ items_count ds + node_count v
  items_count_with no_items v some = absurd (some refl)
  items_count_with (item d no_items) v some = let h = count_with d v in omega (arith, h)
  items_count_with (item d (item e es)) v some = let h = items_count_with (item e es) v (λ e. cc) in omega (arith, h)

  members_count_with : (ms : Members) (v : Data) → (ms ≡ no_members → ⊥) → members_count (members_with_last ms v) + 1 ≡ members_count ms + node_count v
  members_count_with no_members v some = absurd (some refl)
  members_count_with (member k d no_members) v some = let h = count_with d v in omega (arith, h)
  members_count_with (member k d (member l e ms)) v some = let h = members_count_with (member l e ms) v (λ e. cc) in omega (arith, h)

mutual
  last_with : (d v : Data) → last_of (with_last d v) ≡ last_of v
  last_with (list no_items) v = refl
  last_with (list (item d no_items)) v = items_last_with (item d no_items) v (λ e. cc)
  last_with (list (item d (item e es))) v = items_last_with (item d (item e es)) v (λ e. cc)
  last_with (object no_members) v = refl
  last_with (object (member k d no_members)) v = members_last_with (member k d no_members) v (λ e. cc)
  last_with (object (member k d (member l e ms))) v = members_last_with (member k d (member l e ms)) v (λ e. cc)
  last_with _ v = refl

  items_last_with : (ds : Items) (v : Data) → (ds ≡ no_items → ⊥) → last_of_items (items_with_last ds v) ≡ last_of v
  items_last_with no_items v some = absurd (some refl)
  items_last_with (item d no_items) v some = last_with d v
  items_last_with (item d (item e no_items)) v some = items_last_with (item e no_items) v (λ e. cc)
  items_last_with (item d (item e (item f fs))) v some = items_last_with (item e (item f fs)) v (λ e. cc)

  members_last_with : (ms : Members) (v : Data) → (ms ≡ no_members → ⊥) → last_of_members (members_with_last ms v) ≡ last_of v
  members_last_with no_members v some = absurd (some refl)
  members_last_with (member k d no_members) v some = last_with d v
  members_last_with (member k d (member l e no_members)) v some = members_last_with (member l e no_members) v (λ e. cc)
  members_last_with (member k d (member l e (member j f ms))) v some = members_last_with (member l e (member j f ms)) v (λ e. cc)

mutual
  depth_with : (d v : Data) → last_depth (with_last d v) ≡ last_depth d + last_depth v
  depth_with (list no_items) v = omega arith
  depth_with (list (item d no_items)) v = let h = items_depth_with (item d no_items) v (λ e. cc) in omega (arith, h)
  depth_with (list (item d (item e es))) v = let h = items_depth_with (item d (item e es)) v (λ e. cc) in omega (arith, h)
  depth_with (object no_members) v = omega arith
  depth_with (object (member k d no_members)) v = let h = members_depth_with (member k d no_members) v (λ e. cc) in omega (arith, h)
  depth_with (object (member k d (member l e ms))) v = let h = members_depth_with (member k d (member l e ms)) v (λ e. cc) in omega (arith, h)
  depth_with _ v = omega arith

  items_depth_with : (ds : Items) (v : Data) → (ds ≡ no_items → ⊥) → items_last_depth (items_with_last ds v) ≡ items_last_depth ds + last_depth v
  items_depth_with no_items v some = absurd (some refl)
  items_depth_with (item d no_items) v some = depth_with d v
  items_depth_with (item d (item e no_items)) v some = items_depth_with (item e no_items) v (λ e. cc)
  items_depth_with (item d (item e (item f fs))) v some = items_depth_with (item e (item f fs)) v (λ e. cc)

  members_depth_with : (ms : Members) (v : Data) → (ms ≡ no_members → ⊥) → members_last_depth (members_with_last ms v) ≡ members_last_depth ms + last_depth v
  members_depth_with no_members v some = absurd (some refl)
  members_depth_with (member k d no_members) v some = depth_with d v
  members_depth_with (member k d (member l e no_members)) v some = members_depth_with (member l e no_members) v (λ e. cc)
  members_depth_with (member k d (member l e (member j f ms))) v some = members_depth_with (member l e (member j f ms)) v (λ e. cc)

-- a node of count 1 has no parts
one_last : (v : Data) → node_count v ≡ 1 → (last_of v ≡ v) × (last_depth v ≡ 0)
one_last (list no_items) one = (refl, refl)
one_last (list (item d ds)) one = absurd (omega (arith, counts_one d))
one_last (object no_members) one = (refl, refl)
one_last (object (member k d ms)) one = absurd (omega (arith, counts_one d))
one_last _ one = (refl, refl)

pub is_last : (d v : Data) → node_count v ≡ 1 → last_of (with_last d v) ≡ v
is_last d v one = last_with d v ∙ (one_last v one).0

pub same_depth : (d v : Data) → node_count v ≡ 1 → last_depth (with_last d v) ≡ last_depth d
same_depth d v one = let none = (one_last v one).1 in omega (arith, depth_with d v, none)

-- ---- how many times one goes down to where the code puts it

item_depth : (t : Tree) (us : List Tree) (d : Tree) → d ≡ slice_index_or (t ∷ us) (length us) d → items_last_depth (items_of (t ∷ us)) ≡ last_depth (data_of d)
item_depth t [] d here = ap (λ x. last_depth (data_of x)) (sym here)
item_depth t (x ∷ us) d here = item_depth x us d here

pub item_depth_last : (ts : List Tree) (n : ℕ) (d : Tree) → n ≡ length ts → 1 ≤ n → d ≡ slice_index_or ts (n - 1) d → last_depth (list (items_of ts)) ≡ last_depth (data_of d) + 1
item_depth_last [] n d size some here = absurd (omega (arith, size, some))
item_depth_last (t ∷ us) n d size some here = let last : n - 1 ≡ length us = omega arith in let h = item_depth t us d (rw last at here) in omega (arith, h)

member_depth : (m : Member) (ns : List Member) (d : Member) → d ≡ slice_index_or (m ∷ ns) (length ns) d → members_last_depth (members_of (m ∷ ns)) ≡ last_depth (data_of d.tree)
member_depth m [] d here = ap (λ (x : Member). last_depth (data_of x.tree)) (sym here)
member_depth m (n ∷ ns) d here = member_depth n ns d here

pub member_depth_last : (ms : List Member) (n : ℕ) (d : Member) → n ≡ length ms → 1 ≤ n → d ≡ slice_index_or ms (n - 1) d → last_depth (object (members_of ms)) ≡ last_depth (data_of d.tree) + 1
member_depth_last [] n d size some here = absurd (omega (arith, size, some))
member_depth_last (m ∷ ns) n d size some here = let last : n - 1 ≡ length ns = omega arith in let h = member_depth m ns d (rw last at here) in omega (arith, h)
