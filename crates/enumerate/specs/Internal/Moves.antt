-- What a move from one tree to the next answers.
use Rattle.plan.specs.declared.sort.Sort.TheVariants as sort
use Rattle.enumerate.specs.Internal.Nodes.{IsNodeOfSort}
use Rattle.std.specs.Prelude.{◌≡◌, ◌≤◌, ◌+◌, ◌++◌, ℕ, List, ◌∷◌, [], Some, None, Option, length, drop, ◌<◌}
use Rattle.jtree.specs.Data as tree
use Rattle.enumerate.specs.Internal.Changes.{DiffersAt, DiffersTo, DiffersAfter}
use Rattle.jtree.specs.Data.{Data, Items, no_items, Members, no_members, member}
use Rattle.jtree.specs.Nodes.{node_count, items_count, most_nodes, members_count}
use Rattle.jtree.specs.Order.{tree_cmp, items_cmp}
use Rattle.jtree.specs.View.{data_of, members_of}
use Rattle.jtree.specs.declared.value.Member.{Member}
use Rattle.plan.specs.Pools.Pools.{Pools}
use Rattle.plan.specs.Samples.Sites.{Slot}
use Rattle.plan.specs.Samples.Sizes.{filled_nodes}
use Rattle.plan.specs.Samples.RuleOfParts.{members_in}
use Rattle.plan.specs.Samples.Question.{Question}
use Rattle.enumerate.specs.Least.{IsNext}
use Rattle.enumerate.specs.Internal.Rows.{fill_cmp, Demand, row_demand, demand_at, demand_after, demand_past, CanMeet, IsRest, slots_from, slot_in, slots_at, slots_after, slot_there, IsValue, IsValueAt, larger, IsOpenAt, AreUsed}
use Rattle.enumerate.specs.Internal.Candidates.{used_rows}
use Rattle.enumerate.specs.declared.row.RowSlot.{RowSlot}
use Rattle.enumerate.specs.declared.row.Ahead.{Ahead}
use Rattle.enumerate.specs.Internal.Lists.{AreItems}
use Rattle.enumerate.specs.declared.walk.NextTree.{NextTree}
use Rattle.enumerate.specs.declared.walk.NextTree.TheVariants.{To, Last}
use Rattle.enumerate.specs.declared.walk.NextParts.{NextParts}
use Rattle.enumerate.specs.declared.walk.NextParts.TheVariants as parts

-- the next tree for which C holds, and how many levels down it differs; or there is none, and the old one has so many nodes
abbrev pub IsNextTree : (Data → Type 0) → Data → NextTree → Type 0
IsNextTree C old (To new n) = IsNext tree_cmp C old (Some (data_of new)) × DiffersAt n old (data_of new)
IsNextTree C old (Last n) = IsNext tree_cmp C old None × (node_count old ≡ n)

-- the first member has the name
abbrev pub Begins : List ℕ → Members → Type 0
Begins k no_members = ⊥
Begins k (member l d ms) = l ≡ k

-- the members are in the slots, with these fillings
pub record AreInSlots (P : Pools) (ss : List Slot) (d : Demand) (members : List Member) (gs : List (Option Data)) : Type 0 where
  pub are : members_of members ≡ members_in ss gs
  pub rest : IsRest P ss d gs

pub record AreNext (P : Pools) (ss : List Slot) (d : Demand) (old : List (Option Data)) (members : List Member) : Type 0 where
  pub fillings : List (Option Data)
  pub are : members_of members ≡ members_in ss fillings
  pub next : IsNext fill_cmp (IsRest P ss d) old (Some fillings)

-- the members are the next ones for the slots; or there are none
abbrev pub AreNextMembers : NextParts → Pools → List Slot → Demand → List (Option Data) → List Member → Type 0
AreNextMembers (parts.Made n) P ss d old members = AreNext P ss d old members
AreNextMembers (parts.Last n) P ss d old members = IsNext fill_cmp (IsRest P ss d) old None × (d.room ≡ n)

-- the items are the next ones, after the same beginning or another; or there are none
abbrev pub AreNextItems : NextParts → Question → ℕ → Items → Items → Type 0
AreNextItems (parts.Made n) q i old new = IsNext items_cmp (AreItems q i (items_count old) no_items) old (Some new) × DiffersAt n (tree.list old) (tree.list new)
AreNextItems (parts.Last n) q i old new = IsNext items_cmp (AreItems q i (items_count old) no_items) old None × (items_count old ≡ n)

-- a member is in the slot, and others in those after it
pub record IsFilled (q : Question) (i place : ℕ) (d : Demand) (one : Member) (others : List Member) (gs : List (Option Data)) : Type 0 where
  pub rest : List (Option Data)
  pub is : gs ≡ Some (data_of one.tree) ∷ rest
  pub name : one.name ≡ (slot_in q i place).name
  pub value : IsValue q.pools (slot_in q i place) (slots_from q i (place + 1)) d.used (node_count (data_of one.tree)) (data_of one.tree)
  pub in_slots : AreInSlots q.pools (slots_from q i (place + 1)) (demand_after (slot_in q i place) (data_of one.tree) (filled_nodes rest) d) others rest
  pub whole : IsRest q.pools (slot_in q i place ∷ slots_from q i (place + 1)) d (Some (data_of one.tree) ∷ rest)

-- those after the member have no next ones with it
pub record AreLastAfter (q : Question) (i place : ℕ) (d : Demand) (one : Member) (others : List Member) (gs : List (Option Data)) : Type 0 where
  pub small : d.room ≤ most_nodes
  pub are_filled : IsFilled q i place d one others gs
  pub last : IsNext fill_cmp (IsRest q.pools (slots_from q i (place + 1)) (demand_after (slot_in q i place) (data_of one.tree) (filled_nodes are_filled.rest) d)) are_filled.rest None

-- ---- at a row

-- what is asked of a whole row that has this in its slots
abbrev pub demand_of : Question → ℕ → List Data → List (Option Data) → Demand
demand_of q i used gs = row_demand q i (filled_nodes gs) used

-- the members of a row are the next ones, and how many levels down they differ; or there are none
abbrev pub MovesMembers : NextParts → Question → ℕ → List Data → List Member → List Member → Type 0
MovesMembers next q i used old new =
    ((gs : List (Option Data)) → AreInSlots q.pools (slots_from q i 0) (demand_of q i used gs) old gs → AreNextMembers next q.pools (slots_from q i 0) (demand_of q i used gs) gs new)
    × DiffersTo (tree.object (members_of old)) next (tree.object (members_of new))

-- what is ahead with a member that was removed
abbrev pub ahead_with : Ahead → Member → Ahead
ahead_with a one = larger a (node_count (data_of one.tree))

-- what a member was at a slot, whose row has these members before it: what is ahead is what the slots after it had
pub record WasAt (q : Question) (t : RowSlot) (a : Ahead) (members : List Member) (one : Member) : Type 0 where
  pub before : length members ≡ a.before.count
  pub name : one.name ≡ (slot_there q t).name
  pub value : IsValueAt q t (used_rows a.used) (node_count (data_of one.tree)) (data_of one.tree)
  pub rest : CanMeet q.pools (slots_after q t) (demand_past q t (data_of one.tree) a)
  pub slots : IsOpenAt q t.node t.place (ahead_with a one)

-- the members from the slot on are the next ones, where those after it had none; or there are none
abbrev pub MovesMember : NextParts → Question → RowSlot → Ahead → Member → List Member → List Member → Type 0
MovesMember next q t a one old new =
    ((gs : List (Option Data)) (others : List Member) → AreLastAfter q t.node t.place (demand_at q t.node (ahead_with a one)) one others gs
    → AreNextMembers next q.pools (slots_at q t) (demand_at q t.node (ahead_with a one)) gs (drop a.before.count new))
    × DiffersAfter a.room (tree.object (members_of (old ++ one ∷ []))) next (tree.object (members_of new))

-- the members of a row that is to move
pub record AreMembersOf (q : Question) (i : ℕ) (rows : List Data) (members : List Member) : Type 0 where
  pub node : IsNodeOfSort q i sort.Row
  pub used : AreUsed q.pools (slots_from q i 0) rows
  pub in_slots : (gs : List (Option Data)) × AreInSlots q.pools (slots_from q i 0) (demand_of q i rows gs) members gs
  pub limit : members_count (members_of members) < q.limit
