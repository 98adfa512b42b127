-- Pruning level by level, as a walk over a value prunes it. It is proved to be pruning by paths.
use Rattle.std.specs.Prelude.{ℕ, List, Bool, true, Option, Some, None, option_map, if◌then◌else◌, is_some, ◌&&◌}
use Rattle.jtree.specs.Data.{Data, Items, no_items, item, Members, no_members, member}
use Rattle.jtree.specs.Data as tree
use Rattle.jtree.specs.View.{data_of, tree_from}
use Rattle.jtree.specs.declared.value.Tree.{Tree}
use Rattle.jtree.specs.declared.value.Member.{Member}
use Rattle.schema.specs.Nodes.Node.{Node, node, object, map, list, Fields}
use Rattle.schema.specs.Nodes.ByPlace.{field_at}

abbrev pub field_node : Fields → List ℕ → Option Node
field_node fs k = option_map (λ f. f.node) (field_at k fs)

-- the members with a declared name
abbrev pub declared : Fields → Members → Members
declared fs no_members = no_members
declared fs (member k d ms) = if is_some (field_at k fs) then member k d (declared fs ms) else declared fs ms

-- what a node makes of a value, and the value itself where there is no node
abbrev pub by_node : {A : Type 0} → Option Node → (Node → A) → A → A
by_node None f d = d
by_node (Some N) f d = f N

abbrev mutual
  pub pruned : Node → Data → Data
  pruned (node nullable description (object fs preserves type bounds cs)) (tree.object ms) =
      tree.object (if preserves then pruned_members (field_node fs) ms else declared fs (pruned_members (field_node fs) ms))
  pruned (node nullable description (map N type bounds)) (tree.object ms) = tree.object (pruned_members (λ k. Some N) ms)
  pruned (node nullable description (list N type keys bounds)) (tree.list ds) = tree.list (pruned_items N ds)
  pruned _ v = v

  -- each member by the node of its name
  pub pruned_members : (List ℕ → Option Node) → Members → Members
  pruned_members nodes no_members = no_members
  pruned_members nodes (member k d ms) = member k (by_node (nodes k) (λ N. pruned N d) d) (pruned_members nodes ms)

  pub pruned_items : Node → Items → Items
  pruned_items N no_items = no_items
  pruned_items N (item d ds) = item (pruned N d) (pruned_items N ds)

-- nothing is cut
abbrev mutual
  pub is_pruned : Node → Data → Bool
  is_pruned (node nullable description (object fs preserves type bounds cs)) (tree.object ms) = are_pruned (field_node fs) preserves ms
  is_pruned (node nullable description (map N type bounds)) (tree.object ms) = are_pruned (λ k. Some N) true ms
  is_pruned (node nullable description (list N type keys bounds)) (tree.list ds) = are_items_pruned N ds
  is_pruned _ v = true

  -- each member by the node of its name, and whether one without a node is kept
  pub are_pruned : (List ℕ → Option Node) → Bool → Members → Bool
  are_pruned nodes preserves no_members = true
  are_pruned nodes preserves (member k d ms) = by_node (nodes k) (λ N. is_pruned N d) preserves && are_pruned nodes preserves ms

  pub are_items_pruned : Node → Items → Bool
  are_items_pruned N no_items = true
  are_items_pruned N (item d ds) = is_pruned N d && are_items_pruned N ds

-- the same of the code's trees
abbrev pub pruned_tree : Node → Tree → Tree
pruned_tree N t = tree_from (pruned N (data_of t))

abbrev pub pruned_member : (List ℕ → Option Node) → Member → Member
pruned_member nodes m = record { name = m.name; tree = by_node (nodes m.name) (λ N. pruned_tree N m.tree) m.tree }

abbrev pub is_declared_member : Fields → Member → Bool
is_declared_member fs m = is_some (field_at m.name fs)
