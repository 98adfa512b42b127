-- Walks that fill the parts of a value one after the other.
use Rattle.std.specs.Prelude.{◌≡◌, List, Some}
use Rattle.jtree.specs.Data.{Data, Items, no_items, item, Members, no_members, member, IsTree, AreTrees, AreMembers}
use Rattle.jtree.specs.View.{items_of, members_of}
use Rattle.jtree.specs.declared.value.Tree.{Tree}
use Rattle.jtree.specs.declared.value.Member.{Member}
use Rattle.cluster.specs.Filled.{filled, filled_members, filled_items}

abbrev pub joined_items : Items → Items → Items
joined_items no_items es = es
joined_items (item d ds) es = item d (joined_items ds es)

abbrev pub joined : Members → Members → Members
joined no_members ns = ns
joined (member k d ms) ns = member k d (joined ms ns)

-- each value is a tree
abbrev pub HasTrees : Members → Type 0
HasTrees no_members = Unit {0}
HasTrees (member k d ms) = IsTree d × HasTrees ms

-- what is made, before the rest filled, is the whole filled
pub record FillsItems (s : Data) (ds : Items) (rest made : List Tree) : Type 0 where
  pub trees : AreTrees (items_of made)
  pub whole : joined_items (items_of made) (filled_items filled (Some s) (items_of rest)) ≡ filled_items filled (Some s) ds

pub record FillsMembers (s : Data) (ms : Members) (rest made : List Member) : Type 0 where
  pub sorted : AreMembers ms
  pub trees : HasTrees (members_of made)
  pub whole : joined (members_of made) (filled_members filled (Some s) (members_of rest)) ≡ filled_members filled (Some s) ms
