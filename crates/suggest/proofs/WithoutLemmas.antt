-- What is left of values without the paths that never occur: it is a tree, as the code makes it, and it is all where no path is left out.
use Rattle.std.proofs.Common.{◌≡◌, ◌≤◌, ◌<◌, ◌+◌, ℕ, List, [], ◌∷◌, ◌++◌, Option, Some, None, length, get_or, drop, option_map, refl, sym, ap, ◌∙◌, inl, inr, append-nil}
use Rattle.std.specs.Option.{option_to_list}
use Rattle.std.proofs.lemmas.List.{at_drop_more, at_drop_all}
use Rattle.jtree.specs.Data.{Data, Items, no_items, item, Members, no_members, member, IsTree, AreTrees, AreMembers, IsNameBefore}
use Rattle.jtree.specs.Data as tree
use Rattle.jtree.specs.View.{data_of, items_of, members_of}
use Rattle.jtree.specs.declared.value.Tree.{Tree}
use Rattle.jtree.specs.declared.value.Member.{Member}
use Rattle.jtree.specs.Internal.Lookups.{bool_cases, IsNameBefore-trans}
use Rattle.schema.specs.Document.Texts.{is_among}
use Rattle.schema.specs.Nodes.Node.{Node, node, object, map as map_node, list}
use Rattle.stored.specs.Internal.Defaulting.{joined, joined_items}
use Rattle.suggest.specs.Suggested.Without.{Place, place_of_field, place_of_value, place_of_item, left_at, left_member, left_item, taken_out, members_left, items_left}

-- ---- joined members and items

joined_assoc : (a b c : Members) → joined (joined a b) c ≡ joined a (joined b c)
joined_assoc no_members b c = refl
joined_assoc (member k d ms) b c = ap (member k d) (joined_assoc ms b c)

pub joined_end : (a : Members) → joined a no_members ≡ a
joined_end no_members = refl
joined_end (member k d ms) = ap (member k d) (joined_end ms)

pub member_pushed : (xs : List Member) (m : Member) → members_of (xs ++ m ∷ []) ≡ joined (members_of xs) (member m.name (data_of m.tree) no_members)
member_pushed [] m = refl
member_pushed (x ∷ xs) m = ap (member x.name (data_of x.tree)) (member_pushed xs m)

left_joined : (k : List ℕ) (o : Option Data) (ms : Members) → joined (left_member k o no_members) ms ≡ left_member k o ms
left_joined k None ms = refl
left_joined k (Some d) ms = refl

joined_item : (xs : List Tree) (t : Tree) (ds : Items) → joined_items (items_of (xs ++ t ∷ [])) ds ≡ joined_items (items_of xs) (item (data_of t) ds)
joined_item [] t ds = refl
joined_item (x ∷ xs) t ds = ap (item (data_of x)) (joined_item xs t ds)

joined_items_end : (ds : Items) → joined_items ds no_items ≡ ds
joined_items_end no_items = refl
joined_items_end (item d ds) = ap (item d) (joined_items_end ds)

-- ---- loops that copy what is left

-- a member more has been looked at
pub members_more : (ts : List (List ℕ)) (places : List ℕ → Option Place) (xs old new : List Member) (i : ℕ) (m : Member) (o : Option Data) (all : Members) → i < length xs → m ≡ get_or xs i m
    → o ≡ left_at ts (places m.name) (λ P. taken_out ts P.path P.node (data_of m.tree)) (data_of m.tree) → members_of new ≡ joined (members_of old) (left_member m.name o no_members)
    → joined (members_of old) (members_left ts places (members_of (drop i xs))) ≡ all → joined (members_of new) (members_left ts places (members_of (drop (i + 1) xs))) ≡ all
members_more ts places xs old new i m o all within is left pushed e =
    let rest = members_left ts places (members_of (drop (i + 1) xs)) in
    ap (λ x. joined x rest) pushed ∙ (joined_assoc (members_of old) (left_member m.name o no_members) rest ∙ (ap (joined (members_of old)) (left_joined m.name o rest)
    ∙ (ap (λ x. joined (members_of old) (left_member m.name x rest)) left ∙ (ap (λ y. joined (members_of old) (members_left ts places (members_of (y ∷ drop (i + 1) xs)))) is
    ∙ (sym (ap (joined (members_of old)) (at_drop_more (λ ys. members_left ts places (members_of ys)) xs i m within)) ∙ e)))))

pub members_done : (ts : List (List ℕ)) (places : List ℕ → Option Place) (xs copies : List Member) (i : ℕ) (all : Members) → length xs ≤ i
    → joined (members_of copies) (members_left ts places (members_of (drop i xs))) ≡ all → members_of copies ≡ all
members_done ts places xs copies i all past e =
    sym (joined_end (members_of copies)) ∙ (sym (ap (joined (members_of copies)) (at_drop_all (λ ys. members_left ts places (members_of ys)) xs i past)) ∙ e)

item_pushed : (xs : List Tree) (o : Option Tree) (ds : Items) → joined_items (items_of (xs ++ option_to_list o)) ds ≡ joined_items (items_of xs) (left_item (option_map (λ d. data_of d) o) ds)
item_pushed xs None ds = ap (λ ys. joined_items (items_of ys) ds) (append-nil xs)
item_pushed xs (Some t) ds = joined_item xs t ds

pub items_more : (ts : List (List ℕ)) (P : Place) (xs old new : List Tree) (i : ℕ) (t : Tree) (o : Option Tree) (all : Items) → i < length xs → t ≡ get_or xs i t
    → option_map (λ d. data_of d) o ≡ left_at ts (Some P) (λ P. taken_out ts P.path P.node (data_of t)) (data_of t) → new ≡ old ++ option_to_list o
    → joined_items (items_of old) (items_left ts P (items_of (drop i xs))) ≡ all → joined_items (items_of new) (items_left ts P (items_of (drop (i + 1) xs))) ≡ all
items_more ts P xs old new i t o all within is left pushed e =
    let rest = items_left ts P (items_of (drop (i + 1) xs)) in
    ap (λ x. joined_items (items_of x) rest) pushed ∙ (item_pushed old o rest
    ∙ (ap (λ x. joined_items (items_of old) (left_item x rest)) left ∙ (ap (λ y. joined_items (items_of old) (items_left ts P (items_of (y ∷ drop (i + 1) xs)))) is
    ∙ (sym (ap (joined_items (items_of old)) (at_drop_more (λ ys. items_left ts P (items_of ys)) xs i t within)) ∙ e))))

pub items_done : (ts : List (List ℕ)) (P : Place) (xs copies : List Tree) (i : ℕ) (all : Items) → length xs ≤ i → joined_items (items_of copies) (items_left ts P (items_of (drop i xs))) ≡ all → items_of copies ≡ all
items_done ts P xs copies i all past e =
    sym (joined_items_end (items_of copies)) ∙ (sym (ap (joined_items (items_of copies)) (at_drop_all (λ ys. items_left ts P (items_of ys)) xs i past)) ∙ e)

-- ---- what is left is a tree

abbrev IsTreeLeft : Option Data → Type 0
IsTreeLeft None = Unit {0}
IsTreeLeft (Some d) = IsTree d

tree_left : (ts : List (List ℕ)) (o : Option Place) (rest : Place → Data) (d : Data) → IsTree d → ((P : Place) → IsTree (rest P)) → IsTreeLeft (left_at ts o rest d)
tree_left ts None rest d t h = t
tree_left ts (Some P) rest d t h = elim (bool_cases (is_among P.path ts)) [ inl goes ↦ rw goes tt | inr stays ↦ rw stays (h P) ]

before_left : (k l : List ℕ) (o : Option Data) (ms ns : Members) → IsNameBefore k (member l tree.null ms) → AreMembers (member l tree.null ms) → (IsNameBefore k ms → IsNameBefore k ns) → IsNameBefore k (left_member l o ns)
before_left k l None ms ns before sorted h = h (IsNameBefore-trans k l ms before sorted.1)
before_left k l (Some d) ms ns before sorted h = before

left_before : (ts : List (List ℕ)) (places : List ℕ → Option Place) (k : List ℕ) (ms : Members) → IsNameBefore k ms → AreMembers ms → IsNameBefore k (members_left ts places ms)
left_before ts places k no_members before sorted = tt
left_before ts places k (member l d ms) before sorted =
    before_left k l (left_at ts (places l) (λ P. taken_out ts P.path P.node d) d) ms (members_left ts places ms) before (tt, sorted.1, sorted.2) (λ b. left_before ts places k ms b sorted.2)

sorted_member : (k : List ℕ) (o : Option Data) (ms : Members) → IsTreeLeft o → IsNameBefore k ms → AreMembers ms → AreMembers (left_member k o ms)
sorted_member k None ms t before sorted = sorted
sorted_member k (Some d) ms t before sorted = (t, before, sorted)

trees_item : (o : Option Data) (ds : Items) → IsTreeLeft o → AreTrees ds → AreTrees (left_item o ds)
trees_item None ds t h = h
trees_item (Some d) ds t h = (t, h)

mutual
  tree_taken : (ts : List (List ℕ)) (path : List ℕ) (N : Node) (v : Data) → IsTree v → IsTree (taken_out ts path N v)
  tree_taken ts path (node n d (object fs preserves type bounds cs)) (tree.object ms) t = sorted_left ts (place_of_field path fs) ms t
  tree_taken ts path (node n d (map_node N type bounds)) (tree.object ms) t = sorted_left ts (λ k. Some (place_of_value path N)) ms t
  tree_taken ts path (node n d (list N type keys bounds)) (tree.list ds) t = trees_left ts (place_of_item path N) ds t
  tree_taken ts path N v t = t

  pub sorted_left : (ts : List (List ℕ)) (places : List ℕ → Option Place) (ms : Members) → AreMembers ms → AreMembers (members_left ts places ms)
  sorted_left ts places no_members t = tt
  sorted_left ts places (member k d ms) t = sorted_member k (left_at ts (places k) (λ P. taken_out ts P.path P.node d) d) (members_left ts places ms)
      (tree_left ts (places k) (λ P. taken_out ts P.path P.node d) d t.0 (λ P. tree_taken ts P.path P.node d t.0)) (left_before ts places k ms t.1 t.2) (sorted_left ts places ms t.2)

  pub trees_left : (ts : List (List ℕ)) (P : Place) (ds : Items) → AreTrees ds → AreTrees (items_left ts P ds)
  trees_left ts P no_items t = tt
  trees_left ts P (item d ds) t = trees_item (left_at ts (Some P) (λ P. taken_out ts P.path P.node d) d) (items_left ts P ds)
      (tree_left ts (Some P) (λ P. taken_out ts P.path P.node d) d t.0 (λ P. tree_taken ts P.path P.node d t.0)) (trees_left ts P ds t.1)

-- ---- all is left where no path is left out

all_left : (o : Option Place) (rest : Place → Data) (d : Data) → ((P : Place) → rest P ≡ d) → left_at [] o rest d ≡ Some d
all_left None rest d h = refl
all_left (Some P) rest d h = ap Some (h P)

mutual
  pub nothing_taken : (path : List ℕ) (N : Node) (v : Data) → taken_out [] path N v ≡ v
  nothing_taken path (node n d (object fs preserves type bounds cs)) (tree.object ms) = ap tree.object (all_members (place_of_field path fs) ms)
  nothing_taken path (node n d (map_node N type bounds)) (tree.object ms) = ap tree.object (all_members (λ k. Some (place_of_value path N)) ms)
  nothing_taken path (node n d (list N type keys bounds)) (tree.list ds) = ap tree.list (all_items (place_of_item path N) ds)
  nothing_taken path N v = refl

  all_members : (places : List ℕ → Option Place) (ms : Members) → members_left [] places ms ≡ ms
  all_members places no_members = refl
  all_members places (member k d ms) =
      λ i. left_member k (all_left (places k) (λ P. taken_out [] P.path P.node d) d (λ P. nothing_taken P.path P.node d) i) (all_members places ms i)

  all_items : (P : Place) (ds : Items) → items_left [] P ds ≡ ds
  all_items P no_items = refl
  all_items P (item d ds) = λ i. left_item (all_left (Some P) (λ P. taken_out [] P.path P.node d) d (λ P. nothing_taken P.path P.node d) i) (all_items P ds i)
