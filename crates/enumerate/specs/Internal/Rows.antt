-- What is in the slots of a row from a place on, where some rows are used already: none of them may have the same values under all keys.
use Rattle.std.specs.Prelude.{◌≡◌, ◌≢◌, ℕ, ◌+◌, ◌-◌, ◌*◌, ◌≤◌, ◌<◌, ◌++◌, List, [], ◌∷◌, Bool, true, false, Option, Some, None, IfSome, map, filter, drop, length, get_or, All, AllPairs, Contains}
use Rattle.std.specs.Cmp.Lexicographic.{slice_cmp}
use Rattle.std.specs.declared.cmp.Ordering.{Ordering}
use Rattle.std.specs.declared.cmp.Ordering.TheVariants.{Less, Equal, Greater}
use Rattle.jtree.specs.Data.{Data}
use Rattle.jtree.specs.Data as tree
use Rattle.jtree.specs.Nodes.{node_count}
use Rattle.jtree.specs.Order.{tree_cmp}
use Rattle.jtree.specs.View.{data_of, members_of}
use Rattle.jtree.specs.declared.value.Member.{Member}
use Rattle.plan.specs.Pools.Pools.{Pools}
use Rattle.plan.specs.Sets.{IsLeastFrom, IsEmptyFrom}
use Rattle.plan.specs.Samples.Part.{IsPart}
use Rattle.plan.specs.Samples.Sites.{Slot, no_slot, slots}
use Rattle.plan.specs.Samples.Sizes.{AreFillings, filled_nodes, Before, nothing, filled, state_after, Ending, ending_of, MayEnd, CanFill, HasSize}
use Rattle.plan.specs.Samples.RuleOfParts.{members_in}
use Rattle.plan.specs.Samples.NoDeadEnd.{is_key, IsTuple, HasFree}
use Rattle.plan.specs.Samples.Keys.{key_under, HasTuples}
use Rattle.plan.specs.Samples.Candidates.{IsWidth, sort_of}
use Rattle.plan.specs.declared.sort.Sort.TheVariants as sort
use Rattle.plan.specs.Samples.Question.{Question}
use Rattle.plan.specs.declared.plan.Slot as answer
use Rattle.enumerate.specs.Least.{IsLeast}
use Rattle.enumerate.specs.Internal.Nodes.{IsNodeOfSort, site, IsSplit, IsNodeOf, HasSizeAt}
use Rattle.enumerate.specs.declared.row.RowSlot.{RowSlot}
use Rattle.enumerate.specs.declared.row.Ahead.{Ahead}
use Rattle.enumerate.specs.Internal.Candidates.{agreeing_if, used_rows}
use Rattle.enumerate.specs.declared.walk.NextParts.{NextParts}
use Rattle.enumerate.specs.declared.walk.NextParts.TheVariants.{Made, Last}

-- the slots from a place on
abbrev pub slots_from : Question → ℕ → ℕ → List Slot
slots_from q i place = drop place (slots q.pools (site q i))

abbrev pub slot_in : Question → ℕ → ℕ → Slot
slot_in q i place = get_or (slots q.pools (site q i)) place no_slot

abbrev pub ending_at : Question → ℕ → Ending
ending_at q i = ending_of q.pools (site q i)

-- a slot that the plan answers is the one at this place
pub record IsSlotOf (q : Question) (i place : ℕ) (t : answer.Slot) : Type 0 where
  pub first : slots_from q i place ≡ slot_in q i place ∷ slots_from q i (place + 1)
  pub name : t.name.now ≡ (slot_in q i place).name
  pub node : site q t.node ≡ (slot_in q i place).site
  pub must : t.must ≡ (slot_in q i place).must
  pub key : t.key ≡ (slot_in q i place).key
  pub bit : t.bit ≡ (slot_in q i place).bit
  pub few : IfSome t.bit (λ j. j < 4)
  pub below : t.node < i
  pub later : HasTuples q.pools (slots_from q i (place + 1)) t.later
  pub followed : place < 18446744073709551615

-- the slot at a place of a row
pub record IsRowSlot (q : Question) (t : RowSlot) : Type 0 where
  pub node : IsNodeOf q t.node
  pub row : sort_of (site q t.node) ≡ sort.Row
  pub within : t.place < length (slots_from q t.node 0)
  pub slot : IsSlotOf q t.node t.place t.slot

-- so many nodes may be put at a slot and after it
pub record HasRoom (q : Question) (t : RowSlot) (before : Before) (room : ℕ) : Type 0 where
  pub here : IsRowSlot q t
  pub count : before.count ≤ t.place
  pub limit : before.count + room < q.limit

-- a place of a row, and members before it, of which there are fewer than the limit
pub record IsPlaceAfter (q : Question) (i n : ℕ) (members : List Member) : Type 0 where
  pub node : IsNodeOfSort q i sort.Row
  pub place : n ≤ length (slots_from q i 0)
  pub limit : length members < q.limit

abbrev pub slots_at : Question → RowSlot → List Slot
slots_at q a = slots_from q a.node a.place

abbrev pub slots_after : Question → RowSlot → List Slot
slots_after q a = slots_from q a.node (a.place + 1)

abbrev pub slot_there : Question → RowSlot → Slot
slot_there q a = slot_in q a.node a.place

-- an empty slot comes before a filled one
abbrev pub option_cmp : Option Data → Option Data → Ordering
option_cmp None None = Equal
option_cmp None (Some v) = Less
option_cmp (Some u) None = Greater
option_cmp (Some u) (Some v) = tree_cmp u v

abbrev pub fill_cmp : List (Option Data) → List (Option Data) → Ordering
fill_cmp = slice_cmp option_cmp

abbrev pub value_before : Bool → Data → List Data → List Data
value_before true v vs = v ∷ vs
value_before false v vs = vs

-- the values under the keys
abbrev pub key_values : List Slot → List (Option Data) → List Data
key_values (s ∷ ss) (Some v ∷ gs) = value_before s.key v (key_values ss gs)
key_values (s ∷ ss) (None ∷ gs) = key_values ss gs
key_values _ _ = []

-- the keys of the used rows
abbrev pub used_keys : List Slot → List Data → List (List Data)
used_keys ss used = map (key_under ss) used

-- no used row has this key
abbrev pub IsUnused : List Slot → List Data → List Data → Type 0
IsUnused ss used key = Contains (used_keys ss used) key → ⊥

-- ---- what is asked of slots

-- the used rows that agree so far with a value in a slot
abbrev pub still_used : Slot → Data → List Data → List Data
still_used s v used = agreeing_if s.key s.name v used

-- how the row may end after them, what is before them, how many nodes they have together, and the used rows that agree with what is before
-- them
pub record Demand : Type 0 where
  pub ending : Ending
  pub before : Before
  pub room : ℕ
  pub used : List Data

-- what is asked of a whole row
abbrev pub row_demand : Question → ℕ → ℕ → List Data → Demand
row_demand q i room used = record { ending = ending_at q i; before = nothing; room = room; used = used }

-- what is asked from a place of a row on, where this is ahead
abbrev pub demand_at : Question → ℕ → Ahead → Demand
demand_at q i a = record { ending = ending_at q i; before = a.before; room = a.room; used = used_rows a.used }

-- what is asked of the slots after one that has this value, where so many nodes are left for them
abbrev pub demand_after : Slot → Data → ℕ → Demand → Demand
demand_after s v room d = record { ending = d.ending; before = filled s.bit d.before; room = room; used = still_used s v d.used }

-- the slots can have so many nodes, so that the row may end after them
abbrev pub CanMeet : Pools → List Slot → Demand → Type 0
CanMeet P ss d = CanFill P ss d.ending d.before d.room

-- the slots are filled as is asked: no used row has the same values under all keys
pub record IsRest (P : Pools) (ss : List Slot) (d : Demand) (gs : List (Option Data)) : Type 0 where
  pub are : AreFillings P ss gs
  pub ends : MayEnd d.ending (state_after ss gs d.before)
  pub nodes_are : filled_nodes gs ≡ d.room
  pub unused : IsUnused ss d.used (key_values ss gs)

-- used rows have all keys, and no two have the same
pub record AreUsed (P : Pools) (ss : List Slot) (used : List Data) : Type 0 where
  pub few : length used < 4294967296
  pub tuples : All (IsTuple P (filter is_key ss)) (used_keys ss used)
  pub apart : AllPairs (λ t u. t ≢ u) (used_keys ss used)

-- the slots can be filled as is asked
pub record IsOpen (P : Pools) (ss : List Slot) (d : Demand) : Type 0 where
  pub known : AreUsed P ss d.used
  pub rest : CanMeet P ss d
  pub free : HasFree P (filter is_key ss) (used_keys ss d.used) []

-- the first members that meet a demand come after those that were there
pub record AddsFirst (P : Pools) (ss : List Slot) (d : Demand) (old new : List Member) : Type 0 where
  pub added : List Member
  pub is : new ≡ old ++ added
  pub fillings : List (Option Data)
  pub are : members_of added ≡ members_in ss fillings
  pub least : IsLeast fill_cmp (IsRest P ss d) fillings

-- ---- a slot, and those after it

-- a part of n nodes for the slot that leaves those after it some key
pub record IsValue (P : Pools) (s : Slot) (ss : List Slot) (used : List Data) (n : ℕ) (v : Data) : Type 0 where
  pub part : IsPart P s.site v
  pub nodes_are : node_count v ≡ n
  pub free : HasFree P (filter is_key ss) (used_keys ss (still_used s v used)) []

-- a size for the slot that leaves those after it the rest of the nodes
abbrev pub FitsSlot : Pools → Slot → List Slot → Demand → ℕ → Type 0
FitsSlot P s ss d n = IsSplit (HasSize P s.site) (CanFill P ss d.ending (filled s.bit d.before)) d.room n

-- after the members that were there comes the first value of the least size from `from` on, and then the first members after it
pub record Grows (P : Pools) (s : Slot) (ss : List Slot) (d : Demand) (from : ℕ) (old new : List Member) : Type 0 where
  pub size : ℕ
  pub one : Member
  pub name : one.name ≡ s.name
  pub least : IsLeastFrom (FitsSlot P s ss d) from size
  pub first : IsLeast tree_cmp (IsValue P s ss d.used size) (data_of one.tree)
  pub rest : AddsFirst P ss (demand_after s (data_of one.tree) (d.room - size) d) (old ++ one ∷ []) new

abbrev pub IsGrown : NextParts → Pools → Slot → List Slot → Demand → ℕ → List Member → List Member → Type 0
IsGrown (Made n) P s ss d from old new = Grows P s ss d from old new × (n ≡ 0)
IsGrown (Last n) P s ss d from old new = (new ≡ old) × IsEmptyFrom (FitsSlot P s ss d) from × (n ≡ d.room)

-- ---- what is ahead at a place

-- what is ahead, with so many nodes more
abbrev pub larger : Ahead → ℕ → Ahead
larger a n = record { before = a.before; room = a.room + n; used = a.used }

-- the slots from the place on can be filled with what is ahead
pub record IsOpenAt (q : Question) (i place : ℕ) (a : Ahead) : Type 0 where
  pub count : a.before.count ≤ place
  pub limit : a.before.count + a.room < q.limit
  pub can : IsOpen q.pools (slots_from q i place) (demand_at q i a)

abbrev pub AddsFirstAt : Question → ℕ → ℕ → Ahead → List Member → List Member → Type 0
AddsFirstAt q i place a old new = AddsFirst q.pools (slots_from q i place) (demand_at q i a) old new

abbrev pub IsGrownAt : NextParts → Question → RowSlot → Ahead → ℕ → List Member → List Member → Type 0
IsGrownAt next q t a from old new = IsGrown next q.pools (slot_there q t) (slots_after q t) (demand_at q t.node a) from old new

-- a size for the slot, where this is before it and so many nodes are ahead, whichever rows are used
abbrev pub FitsAt : Question → RowSlot → Before → ℕ → ℕ → Type 0
FitsAt q t x room n = FitsSlot q.pools (slot_there q t) (slots_after q t) (record { ending = ending_at q t.node; before = x; room = room; used = [] }) n

-- what is asked of the slots after this one, where this value is in it
abbrev pub demand_past : Question → RowSlot → Data → Ahead → Demand
demand_past q t v a = demand_after (slot_there q t) v a.room (demand_at q t.node a)

abbrev pub AddsFirstAfter : Question → RowSlot → Data → Ahead → List Member → List Member → Type 0
AddsFirstAfter q t v a old new = AddsFirst q.pools (slots_after q t) (demand_past q t v a) old new

pub record IsOpenAfter (q : Question) (t : RowSlot) (v : Data) (a : Ahead) : Type 0 where
  pub count : a.before.count ≤ t.place
  pub limit : a.before.count + 1 + a.room < q.limit
  pub can : IsOpen q.pools (slots_after q t) (demand_past q t v a)

abbrev pub IsValueAt : Question → RowSlot → List Data → ℕ → Data → Type 0
IsValueAt q t used n v = IsValue q.pools (slot_there q t) (slots_after q t) used n v

abbrev pub AreUsedAt : Question → RowSlot → List Data → Type 0
AreUsedAt q t used = AreUsed q.pools (slots_at q t) used

-- ---- whole rows

-- an object that is a part of n nodes besides its own, and no used row
pub record IsRow (q : Question) (i n : ℕ) (used : List Data) (v : Data) : Type 0 where
  pub fillings : List (Option Data)
  pub is : v ≡ tree.object (members_in (slots_from q i 0) fillings)
  pub rest : IsRest q.pools (slots_from q i 0) (row_demand q i n used) fillings

-- for each slot one step, and one for their end, besides those of m nodes
abbrev pub CostsSlots : Question → ℕ → ℕ → ℕ → ℕ → ℕ → Type 0
CostsSlots q i place old new m = (w : ℕ) → IsWidth q w → new ≤ old + (length (slots_from q i place) + 1) + (w + 1) * m

abbrev pub CostsAfter : Question → RowSlot → ℕ → ℕ → ℕ → Type 0
CostsAfter q t old new m = CostsSlots q t.node (t.place + 1) old new m

-- a slot can have a value of so many nodes, which leaves some tuple of keys unused
pub record CanHave (q : Question) (t : RowSlot) (rows : List Data) (n : ℕ) : Type 0 where
  pub here : IsRowSlot q t
  pub size : HasSizeAt q t.slot.node n
  pub limit : n ≤ q.limit
  pub known : AreUsedAt q t rows
  pub free : HasFree q.pools (filter is_key (slots_at q t)) (used_keys (slots_at q t) rows) []
