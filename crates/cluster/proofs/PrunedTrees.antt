-- What is pruned level by level is a tree.
use Rattle.std.proofs.Common.{◌≡◌, ℕ, List, [], ◌∷◌, Bool, true, false, Option, map, refl, inl, inr}
use Rattle.std.specs.Prelude.{filter, if◌then◌else◌}
use Rattle.jtree.specs.Data.{Data, list, object, Items, no_items, item, Members, no_members, member, IsTree, AreTrees, AreMembers, IsNameBefore}
use Rattle.jtree.specs.View.{data_of, items_of, members_of}
use Rattle.jtree.specs.declared.value.Tree.{Tree}
use Rattle.jtree.specs.declared.value.Member.{Member}
use Rattle.jtree.specs.Internal.Lookups.{bool_cases, IsNameBefore-trans}
use Rattle.cluster.specs.Keywords.{member_schema, item_schema, keeps_undeclared, is_embedded}
use Rattle.cluster.specs.Pruned.{is_kept, is_entered, kept_members, items_keep, pruned, pruned_members, pruned_items}
use Rattle.cluster.specs.Internal.Trees.{pruned_tree, pruned_member, is_kept_member}
use Rattle.cluster.proofs.TreeLemmas.{data_back, data_if, either_tree}

pub items_pruned : (keeps : Bool) (s : Option Data) (ts : List Tree) → items_of (map (pruned_tree (is_embedded s) keeps s) ts) ≡ pruned_items keeps s (items_of ts)
items_pruned keeps s [] = refl
items_pruned keeps s (t ∷ ts) = λ i. item (data_back (pruned (is_embedded s) keeps s (data_of t)) i) (items_pruned keeps s ts i)

pub members_pruned : (r : Bool) (s : Option Data) (ms : List Member) → members_of (map (pruned_member r s) ms) ≡ pruned_members r s (members_of ms)
members_pruned r s [] = refl
members_pruned r s (m ∷ ms) =
    λ i. member m.name (data_if (is_entered r s m.name) (pruned (is_embedded (member_schema m.name s)) (keeps_undeclared (member_schema m.name s)) (member_schema m.name s) (data_of m.tree)) m.tree i) (members_pruned r s ms i)

pub members_kept : (r : Bool) (s : Option Data) (ms : List Member) → members_of (filter (is_kept_member r s) ms) ≡ kept_members r s (members_of ms)
members_kept r s [] = refl
members_kept r s (m ∷ ms) = elim (bool_cases (is_kept r s m.name)) [
  | inl t ↦ rw t (λ i. member m.name (data_of m.tree) (members_kept r s ms i))
  | inr f ↦ rw f (members_kept r s ms)
]

kept_before : (r : Bool) (s : Option Data) (k : List ℕ) (ms : Members) → IsNameBefore k ms → AreMembers ms → IsNameBefore k (kept_members r s ms)
kept_before r s k no_members before sorted = tt
kept_before r s k (member l d ms) before sorted = elim (bool_cases (is_kept r s l)) [
  | inl t ↦ rw t before
  | inr f ↦ rw f (kept_before r s k ms (IsNameBefore-trans k l ms before sorted.1) sorted.2)
]

pub sorted_kept : (r : Bool) (s : Option Data) (ms : Members) → AreMembers ms → AreMembers (kept_members r s ms)
sorted_kept r s no_members t = tt
sorted_kept r s (member k d ms) t = elim (bool_cases (is_kept r s k)) [
  | inl some ↦ rw some (t.0, kept_before r s k ms t.1 t.2, sorted_kept r s ms t.2)
  | inr none ↦ rw none (sorted_kept r s ms t.2)
]

pruned_before : (r : Bool) (s : Option Data) (k : List ℕ) (ms : Members) → IsNameBefore k ms → IsNameBefore k (pruned_members r s ms)
pruned_before r s k no_members before = tt
pruned_before r s k (member l d ms) before = before

either_sorted : (b : Bool) (ms ns : Members) → AreMembers ms → AreMembers ns → AreMembers (if b then ms else ns)
either_sorted true ms ns p q = p
either_sorted false ms ns p q = q

mutual
  pub tree_pruned : (r keeps : Bool) (s : Option Data) (v : Data) → IsTree v → IsTree (pruned r keeps s v)
  tree_pruned r keeps s (object ms) t =
      let sorted = sorted_pruned r s ms t in
      either_sorted keeps (pruned_members r s ms) (kept_members r s (pruned_members r s ms)) sorted (sorted_kept r s (pruned_members r s ms) sorted)
  tree_pruned r keeps s (list ds) t = trees_pruned (items_keep keeps s) (item_schema s) ds t
  tree_pruned r keeps s _ t = t

  pub sorted_pruned : (r : Bool) (s : Option Data) (ms : Members) → AreMembers ms → AreMembers (pruned_members r s ms)
  sorted_pruned r s no_members t = tt
  sorted_pruned r s (member k d ms) t = (
    either_tree (is_entered r s k) (pruned (is_embedded (member_schema k s)) (keeps_undeclared (member_schema k s)) (member_schema k s) d) d
        (tree_pruned (is_embedded (member_schema k s)) (keeps_undeclared (member_schema k s)) (member_schema k s) d t.0) t.0,
    pruned_before r s k ms t.1,
    sorted_pruned r s ms t.2,
  )

  pub trees_pruned : (keeps : Bool) (s : Option Data) (ds : Items) → AreTrees ds → AreTrees (pruned_items keeps s ds)
  trees_pruned keeps s no_items t = tt
  trees_pruned keeps s (item d ds) t = (tree_pruned (is_embedded s) keeps s d t.0, trees_pruned keeps s ds t.1)
