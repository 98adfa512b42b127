-- What is pruned level by level is a tree.
use Rattle.std.proofs.Common.{◌≡◌, ◌≤◌, ℕ, List, [], ◌∷◌, ◌++◌, true, false, Option, Some, None, ◌+◌, ◌<◌, get_or, set, map, take, drop, length, refl, sym, ap, ◌∙◌, inl, inr, arith}
use Rattle.std.specs.Str.{bytes_eq}
use Rattle.std.proofs.lemmas.Option.{same_Some}
use Rattle.std.proofs.lemmas.List.Edits.{map_over_more}
use Rattle.std.specs.Prelude.{is_some, filter}
use Rattle.jtree.specs.Data.{Data, Items, no_items, item, Members, no_members, member, IsTree, AreTrees, AreMembers, IsNameBefore}
use Rattle.jtree.specs.Data as tree
use Rattle.jtree.specs.View.{data_of, tree_from, items_of, members_of}
use Rattle.jtree.specs.declared.value.Tree.{Tree}
use Rattle.jtree.specs.declared.value.Member.{Member}
use Rattle.jtree.specs.Internal.Lookups.{bool_cases, IsNameBefore-trans}
use Rattle.schema.specs.Nodes.Node.{Node, node, object, map as map_node, list, Fields, no_fields, field, node_depth, fields_depth}
use Rattle.schema.specs.Nodes.ByPlace.{Declared, field_at}
use Rattle.stored.specs.Internal.Pruning.{field_node, declared, pruned, pruned_members, pruned_items, by_node, pruned_tree, pruned_member, is_declared_member}

pub data_back : (d : Data) → data_of (tree_from d) ≡ d
data_back tree.null = refl
data_back (tree.boolean b) = refl
data_back (tree.integer z) = refl
data_back (tree.number s) = refl
data_back (tree.text s) = refl
data_back (tree.list ds) = refl
data_back (tree.object ms) = refl

pub items_pruned : (N : Node) (ts : List Tree) → items_of (map (pruned_tree N) ts) ≡ pruned_items N (items_of ts)
items_pruned N [] = refl
items_pruned N (t ∷ ts) = λ i. item (data_back (pruned N (data_of t)) i) (items_pruned N ts i)

tree_by_node : (o : Option Node) (t : Tree) → data_of (by_node o (λ N. pruned_tree N t) t) ≡ by_node o (λ N. pruned N (data_of t)) (data_of t)
tree_by_node None t = refl
tree_by_node (Some N) t = data_back (pruned N (data_of t))

pub members_pruned : (nodes : List ℕ → Option Node) (ms : List Member) → members_of (map (pruned_member nodes) ms) ≡ pruned_members nodes (members_of ms)
members_pruned nodes [] = refl
members_pruned nodes (m ∷ ms) = λ i. member m.name (tree_by_node (nodes m.name) m.tree i) (members_pruned nodes ms i)

pub members_declared : (fs : Fields) (ms : List Member) → members_of (filter (is_declared_member fs) ms) ≡ declared fs (members_of ms)
members_declared fs [] = refl
members_declared fs (m ∷ ms) = elim (bool_cases (is_some (field_at m.name fs))) [
  | inl t ↦ rw t (λ i. member m.name (data_of m.tree) (members_declared fs ms i))
  | inr f ↦ rw f (members_declared fs ms)
]

declared_before : (fs : Fields) (k : List ℕ) (ms : Members) → IsNameBefore k ms → AreMembers ms → IsNameBefore k (declared fs ms)
declared_before fs k no_members before sorted = tt
declared_before fs k (member l d ms) before sorted = elim (bool_cases (is_some (field_at l fs))) [
  | inl t ↦ rw t before
  | inr f ↦ rw f (declared_before fs k ms (IsNameBefore-trans k l ms before sorted.1) sorted.2)
]

pub declared_members : (fs : Fields) (ms : Members) → AreMembers ms → AreMembers (declared fs ms)
declared_members fs no_members t = tt
declared_members fs (member k d ms) t = elim (bool_cases (is_some (field_at k fs))) [
  | inl some ↦ rw some (t.0, declared_before fs k ms t.1 t.2, declared_members fs ms t.2)
  | inr none ↦ rw none (declared_members fs ms t.2)
]

pruned_before : (nodes : List ℕ → Option Node) (k : List ℕ) (ms : Members) → IsNameBefore k ms → IsNameBefore k (pruned_members nodes ms)
pruned_before nodes k no_members before = tt
pruned_before nodes k (member l d ms) before = before

by_node_tree : (o : Option Node) (f : Node → Data) (d : Data) → IsTree d → ((N : Node) → IsTree (f N)) → IsTree (by_node o f d)
by_node_tree None f d t h = t
by_node_tree (Some N) f d t h = h N

mutual
  pub tree_pruned : (N : Node) (v : Data) → IsTree v → IsTree (pruned N v)
  tree_pruned (node n d (object fs true type bounds cs)) (tree.object ms) t = sorted_pruned (field_node fs) ms t
  tree_pruned (node n d (object fs false type bounds cs)) (tree.object ms) t = declared_members fs (pruned_members (field_node fs) ms) (sorted_pruned (field_node fs) ms t)
  tree_pruned (node n d (map_node N type bounds)) (tree.object ms) t = sorted_pruned (λ k. Some N) ms t
  tree_pruned (node n d (list N type keys bounds)) (tree.list ds) t = trees_pruned N ds t
  tree_pruned _ v t = t

  pub sorted_pruned : (nodes : List ℕ → Option Node) (ms : Members) → AreMembers ms → AreMembers (pruned_members nodes ms)
  sorted_pruned nodes no_members t = tt
  sorted_pruned nodes (member k d ms) t = (by_node_tree (nodes k) (λ N. pruned N d) d t.0 (λ N. tree_pruned N d t.0), pruned_before nodes k ms t.1, sorted_pruned nodes ms t.2)

  pub trees_pruned : (N : Node) (ds : Items) → AreTrees ds → AreTrees (pruned_items N ds)
  trees_pruned N no_items t = tt
  trees_pruned N (item d ds) t = (tree_pruned N d t.0, trees_pruned N ds t.1)

-- ---- a loop that prunes in place

pub mapped_more : {X : Type 0} (f : X → X) (xs ys : List X) (i : ℕ) (d y : X) → i < length xs → ys ≡ map f (take i xs) ++ drop i xs → d ≡ get_or ys i d → y ≡ f (get_or ys i d)
    → set ys i y ≡ map f (take (i + 1) xs) ++ drop (i + 1) xs
mapped_more f xs ys i d y within e is new = rw (new ∙ ap f (sym is)) (map_over_more f xs ys i d within e is)

pub member_pruned : (nodes : List ℕ → Option Node) (m : Member) (o : Option Node) (t : Tree) → nodes m.name ≡ o → t ≡ by_node o (λ N. pruned_tree N m.tree) m.tree → record { name = m.name; tree = t } ≡ pruned_member nodes m
member_pruned nodes m o t is e = rw (is, e) refl

-- ---- the measure

pub field_depth : (fs : Fields) (k : List ℕ) (f : Declared) → field_at k fs ≡ Some f → node_depth f.node ≤ fields_depth fs
field_depth no_fields k f found = cc
field_depth (field l N required default fs) k f found = elim (bool_cases (bytes_eq k l)) [
  | inl t ↦ let is = same_Some _ f (rw t at found) in let same = ap (λ g. node_depth g.node) is in omega arith
  | inr other ↦ let later = field_depth fs k f (rw other at found) in omega arith
]
