-- What is left of metadata is a tree.
use Rattle.std.proofs.Common.{◌≡◌, ◌≤◌, ℕ, List, [], ◌∷◌, Bool, true, false, Option, codes, length, map, refl, arith, inl, inr}
use Rattle.std.specs.Prelude.{filter, ◌==◌, if◌then◌else◌}
use Rattle.std.specs.Str.{bytes_eq}
use Rattle.std.proofs.lemmas.Bool.Decides.{nat_tests}
use Rattle.jtree.specs.Data.{Data, null, list, object, Items, no_items, item, Members, no_members, member, IsTree, AreTrees, AreMembers, IsNameBefore}
use Rattle.jtree.specs.View.{data_of, tree_from, items_of, members_of}
use Rattle.jtree.specs.declared.value.Tree.{Tree}
use Rattle.jtree.specs.declared.value.Member.{Member}
use Rattle.jtree.specs.Internal.Lookups.{bool_cases, IsNameBefore-trans}
use Rattle.cluster.specs.Keywords.{member_schema, item_schema, is_embedded}
use Rattle.cluster.specs.Metadata.{stays_in_entry, entry_members, entry, each_entry, entries, has_entries, meta_values, has_no_items, has_no_members, stays_in_metadata, meta_members, object_meta, is_metadata, with_object_meta, members_with_meta, items_with_meta}
use Rattle.cluster.specs.Internal.Trees.{entry_tree, meta_member, stays_member, stays_entry_member, tree_with_meta, member_with_meta}
use Rattle.cluster.proofs.TreeLemmas.{data_back, data_if, either_tree}

-- ---- lists and objects with nothing in them

not_zero : (n : ℕ) → 1 ≤ n → (n == 0) ≡ false
not_zero n h = grind (arith, nat_tests)

pub empty_items : (ts : List Tree) → (length ts == 0) ≡ has_no_items (items_of ts)
empty_items [] = refl
empty_items (t ∷ ts) = not_zero (length (t ∷ ts)) (omega arith)

pub empty_members : (ms : List Member) → (length ms == 0) ≡ has_no_members (members_of ms)
empty_members [] = refl
empty_members (m ∷ ms) = not_zero (length (m ∷ ms)) (omega arith)

-- ---- entries

pub list_of_entry : (managed : Bool) (ms : List Member) → members_of (filter (stays_entry_member managed) ms) ≡ entry_members managed (members_of ms)
list_of_entry managed [] = refl
list_of_entry managed (m ∷ ms) = elim (bool_cases (stays_in_entry managed m.name (data_of m.tree))) [
  | inl t ↦ rw t (λ i. member m.name (data_of m.tree) (list_of_entry managed ms i))
  | inr f ↦ rw f (list_of_entry managed ms)
]

entry_before : (managed : Bool) (k : List ℕ) (ms : Members) → IsNameBefore k ms → AreMembers ms → IsNameBefore k (entry_members managed ms)
entry_before managed k no_members before sorted = tt
entry_before managed k (member l d ms) before sorted = elim (bool_cases (stays_in_entry managed l d)) [
  | inl t ↦ rw t before
  | inr f ↦ rw f (entry_before managed k ms (IsNameBefore-trans k l ms before sorted.1) sorted.2)
]

pub sorted_entry : (managed : Bool) (ms : Members) → AreMembers ms → AreMembers (entry_members managed ms)
sorted_entry managed no_members t = tt
sorted_entry managed (member k d ms) t = elim (bool_cases (stays_in_entry managed k d)) [
  | inl some ↦ rw some (t.0, entry_before managed k ms t.1 t.2, sorted_entry managed ms t.2)
  | inr none ↦ rw none (sorted_entry managed ms t.2)
]

entry_is_tree : (managed : Bool) (d : Data) → IsTree d → IsTree (entry managed d)
entry_is_tree managed (object ms) t = sorted_entry managed ms t
entry_is_tree managed _ t = t

pub list_of_entries : (managed : Bool) (ts : List Tree) → items_of (map (entry_tree managed) ts) ≡ each_entry managed (items_of ts)
list_of_entries managed [] = refl
list_of_entries managed (t ∷ ts) = λ i. item (data_back (entry managed (data_of t)) i) (list_of_entries managed ts i)

pub entries_are_trees : (managed : Bool) (ds : Items) → AreTrees ds → AreTrees (each_entry managed ds)
entries_are_trees managed no_items t = tt
entries_are_trees managed (item d ds) t = (entry_is_tree managed d t.0, entries_are_trees managed ds t.1)

entries_is_tree : (managed : Bool) (d : Data) → IsTree d → IsTree (entries managed d)
entries_is_tree managed (list ds) t = entries_are_trees managed ds t
entries_is_tree managed _ t = t

-- ---- fields

pub list_of_values : (ms : List Member) → members_of (map meta_member ms) ≡ meta_values (members_of ms)
list_of_values [] = refl
list_of_values (m ∷ ms) = λ i. member m.name (data_if (has_entries m.name) (entries (bytes_eq m.name (codes "managedFields")) (data_of m.tree)) m.tree i) (list_of_values ms i)

values_before : (k : List ℕ) (ms : Members) → IsNameBefore k ms → IsNameBefore k (meta_values ms)
values_before k no_members before = tt
values_before k (member l d ms) before = before

pub sorted_values : (ms : Members) → AreMembers ms → AreMembers (meta_values ms)
sorted_values no_members t = tt
sorted_values (member k d ms) t = (
  either_tree (has_entries k) (entries (bytes_eq k (codes "managedFields")) d) d (entries_is_tree (bytes_eq k (codes "managedFields")) d t.0) t.0,
  values_before k ms t.1,
  sorted_values ms t.2,
)

pub list_of_fields : (ms : List Member) → members_of (filter stays_member ms) ≡ meta_members (members_of ms)
list_of_fields [] = refl
list_of_fields (m ∷ ms) = elim (bool_cases (stays_in_metadata m.name (data_of m.tree))) [
  | inl t ↦ rw t (λ i. member m.name (data_of m.tree) (list_of_fields ms i))
  | inr f ↦ rw f (list_of_fields ms)
]

fields_before : (k : List ℕ) (ms : Members) → IsNameBefore k ms → AreMembers ms → IsNameBefore k (meta_members ms)
fields_before k no_members before sorted = tt
fields_before k (member l d ms) before sorted = elim (bool_cases (stays_in_metadata l d)) [
  | inl t ↦ rw t before
  | inr f ↦ rw f (fields_before k ms (IsNameBefore-trans k l ms before sorted.1) sorted.2)
]

pub sorted_fields : (ms : Members) → AreMembers ms → AreMembers (meta_members ms)
sorted_fields no_members t = tt
sorted_fields (member k d ms) t = elim (bool_cases (stays_in_metadata k d)) [
  | inl some ↦ rw some (t.0, fields_before k ms t.1 t.2, sorted_fields ms t.2)
  | inr none ↦ rw none (sorted_fields ms t.2)
]

meta_is_tree : (d : Data) → IsTree d → IsTree (object_meta d)
meta_is_tree null t = tt
meta_is_tree (object ms) t = sorted_fields (meta_values ms) (sorted_values ms t)
meta_is_tree _ t = t

-- ---- resources in a value

pub items_meta : (s : Option Data) (ts : List Tree) → items_of (map (tree_with_meta (is_embedded s) s) ts) ≡ items_with_meta s (items_of ts)
items_meta s [] = refl
items_meta s (t ∷ ts) = λ i. item (data_back (with_object_meta (is_embedded s) s (data_of t)) i) (items_meta s ts i)

data_either : (b : Bool) (d e : Data) → data_of (if b then tree_from d else tree_from e) ≡ if b then d else e
data_either true d e = data_back d
data_either false d e = data_back e

pub members_meta : (r : Bool) (s : Option Data) (ms : List Member) → members_of (map (member_with_meta r s) ms) ≡ members_with_meta r s (members_of ms)
members_meta r s [] = refl
members_meta r s (m ∷ ms) =
    λ i. member m.name (data_either (is_metadata r m.name) (object_meta (data_of m.tree)) (with_object_meta (is_embedded (member_schema m.name s)) (member_schema m.name s) (data_of m.tree)) i) (members_meta r s ms i)

meta_before : (r : Bool) (s : Option Data) (k : List ℕ) (ms : Members) → IsNameBefore k ms → IsNameBefore k (members_with_meta r s ms)
meta_before r s k no_members before = tt
meta_before r s k (member l d ms) before = before

mutual
  with_meta_tree : (r : Bool) (s : Option Data) (v : Data) → IsTree v → IsTree (with_object_meta r s v)
  with_meta_tree r s (object ms) t = sorted_meta r s ms t
  with_meta_tree r s (list ds) t = trees_meta (item_schema s) ds t
  with_meta_tree r s _ t = t

  pub sorted_meta : (r : Bool) (s : Option Data) (ms : Members) → AreMembers ms → AreMembers (members_with_meta r s ms)
  sorted_meta r s no_members t = tt
  sorted_meta r s (member k d ms) t = (
    either_tree (is_metadata r k) (object_meta d) (with_object_meta (is_embedded (member_schema k s)) (member_schema k s) d)
        (meta_is_tree d t.0) (with_meta_tree (is_embedded (member_schema k s)) (member_schema k s) d t.0),
    meta_before r s k ms t.1,
    sorted_meta r s ms t.2,
  )

  pub trees_meta : (s : Option Data) (ds : Items) → AreTrees ds → AreTrees (items_with_meta s ds)
  trees_meta s no_items t = tt
  trees_meta s (item d ds) t = (with_meta_tree (is_embedded s) s d t.0, trees_meta s ds t.1)
