-- What loses nulls level by level is a tree.
use Rattle.std.proofs.Common.{◌≡◌, ℕ, List, [], ◌∷◌, Bool, false, Option, map, refl, inl, inr}
use Rattle.std.specs.Prelude.{filter}
use Rattle.jtree.specs.Data.{Data, list, object, Items, no_items, item, Members, no_members, member, IsTree, AreTrees, AreMembers, IsNameBefore}
use Rattle.jtree.specs.View.{data_of, items_of, members_of}
use Rattle.jtree.specs.declared.value.Tree.{Tree}
use Rattle.jtree.specs.declared.value.Member.{Member}
use Rattle.jtree.specs.Internal.Lookups.{bool_cases, IsNameBefore-trans}
use Rattle.cluster.specs.Keywords.{member_schema, item_schema}
use Rattle.cluster.specs.Pruned.{is_enveloped}
use Rattle.cluster.specs.WithoutNulls.{is_dropped, members_left, without_nulls, members_without, items_without}
use Rattle.cluster.specs.Internal.Trees.{tree_without, member_without, is_left_member}
use Rattle.cluster.proofs.TreeLemmas.{data_back, data_unless, either_tree}

pub trees_without : (s : Option Data) (ts : List Tree) → items_of (map (tree_without false s) ts) ≡ items_without s (items_of ts)
trees_without s [] = refl
trees_without s (t ∷ ts) = λ i. item (data_back (without_nulls false s (data_of t)) i) (trees_without s ts i)

pub list_without : (r : Bool) (s : Option Data) (ms : List Member) → members_of (map (member_without r s) ms) ≡ members_without r s (members_of ms)
list_without r s [] = refl
list_without r s (m ∷ ms) = λ i. member m.name (data_unless (is_enveloped r m.name) m.tree (without_nulls false (member_schema m.name s) (data_of m.tree)) i) (list_without r s ms i)

pub list_left : (r : Bool) (s : Option Data) (ms : List Member) → members_of (filter (is_left_member r s) ms) ≡ members_left r s (members_of ms)
list_left r s [] = refl
list_left r s (m ∷ ms) = elim (bool_cases (is_dropped r s m.name (data_of m.tree))) [
  | inl t ↦ rw t (list_left r s ms)
  | inr f ↦ rw f (λ i. member m.name (data_of m.tree) (list_left r s ms i))
]

left_before : (r : Bool) (s : Option Data) (k : List ℕ) (ms : Members) → IsNameBefore k ms → AreMembers ms → IsNameBefore k (members_left r s ms)
left_before r s k no_members before sorted = tt
left_before r s k (member l d ms) before sorted = elim (bool_cases (is_dropped r s l d)) [
  | inl t ↦ rw t (left_before r s k ms (IsNameBefore-trans k l ms before sorted.1) sorted.2)
  | inr f ↦ rw f before
]

pub sorted_left : (r : Bool) (s : Option Data) (ms : Members) → AreMembers ms → AreMembers (members_left r s ms)
sorted_left r s no_members t = tt
sorted_left r s (member k d ms) t = elim (bool_cases (is_dropped r s k d)) [
  | inl gone ↦ rw gone (sorted_left r s ms t.2)
  | inr there ↦ rw there (t.0, left_before r s k ms t.1 t.2, sorted_left r s ms t.2)
]

without_before : (r : Bool) (s : Option Data) (k : List ℕ) (ms : Members) → IsNameBefore k ms → IsNameBefore k (members_without r s ms)
without_before r s k no_members before = tt
without_before r s k (member l d ms) before = before

mutual
  pub is_tree_without : (r : Bool) (s : Option Data) (v : Data) → IsTree v → IsTree (without_nulls r s v)
  is_tree_without r s (object ms) t = sorted_left r s (members_without r s ms) (sorted_without r s ms t)
  is_tree_without r s (list ds) t = are_trees_without (item_schema s) ds t
  is_tree_without r s _ t = t

  pub sorted_without : (r : Bool) (s : Option Data) (ms : Members) → AreMembers ms → AreMembers (members_without r s ms)
  sorted_without r s no_members t = tt
  sorted_without r s (member k d ms) t = (
    either_tree (is_enveloped r k) d (without_nulls false (member_schema k s) d) t.0 (is_tree_without false (member_schema k s) d t.0),
    without_before r s k ms t.1,
    sorted_without r s ms t.2,
  )

  pub are_trees_without : (s : Option Data) (ds : Items) → AreTrees ds → AreTrees (items_without s ds)
  are_trees_without s no_items t = tt
  are_trees_without s (item d ds) t = (is_tree_without false s d t.0, are_trees_without s ds t.1)
