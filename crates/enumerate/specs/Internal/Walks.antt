-- A row that is walked from the last slot to the first.
use Rattle.std.specs.Prelude.{Result, IfOk, ◌≡◌, ℕ, ◌+◌, ◌*◌, ◌≤◌, ◌<◌, List, Option, None, take, drop, length}
use Rattle.jtree.specs.Data.{Data}
use Rattle.jtree.specs.Data as tree
use Rattle.enumerate.specs.Internal.Changes.{DiffersAfter}
use Rattle.enumerate.specs.declared.row.RowSlot.{RowSlot}
use Rattle.enumerate.specs.declared.row.Removed.{Removed}
use Rattle.jtree.specs.Nodes.{most_nodes, members_count}
use Rattle.jtree.specs.View.{members_of}
use Rattle.jtree.specs.declared.value.Member.{Member}
use Rattle.plan.specs.Samples.Candidates.{IsWidth}
use Rattle.plan.specs.Samples.Question.{Question}
use Rattle.plan.specs.Samples.Sites.{Slot}
use Rattle.plan.specs.Samples.RuleOfParts.{members_in}
use Rattle.plan.specs.Samples.Sizes.{filled_nodes, Before, nothing}
use Rattle.enumerate.specs.Least.{IsNext}
use Rattle.enumerate.specs.Internal.Rows.{fill_cmp, Demand, IsRest, slots_from, CostsSlots, IsRowSlot, AreUsed}
use Rattle.enumerate.specs.Internal.Moves.{AreNext, demand_of}
use Rattle.enumerate.specs.Internal.Prefixes.{members_to, before_at, used_at}
use Rattle.enumerate.specs.declared.walk.NextParts.{NextParts}
use Rattle.enumerate.specs.declared.walk.NextParts.TheVariants.{Made, Last}

-- what is asked of the slots from a place on, where those before it are filled so
abbrev pub demand_from : ℕ → List Slot → List (Option Data) → Demand → Demand
demand_from place ss gs d = record { ending = d.ending; before = before_at place ss gs d.before; room = filled_nodes (drop place gs); used = used_at place ss gs d.used }

-- a row that is filled so, with these members before a place and others from it on
pub record IsCut (q : Question) (i place : ℕ) (used : List Data) (members : List Member) (gs : List (Option Data)) : Type 0 where
  pub small : filled_nodes gs ≤ most_nodes
  pub whole : IsRest q.pools (slots_from q i 0) (demand_of q i used gs) gs
  pub front : members_of members ≡ members_to place (slots_from q i 0) gs
  pub after : List Member
  pub after_are : members_of after ≡ members_in (slots_from q i place) (drop place gs)

-- What is in the slots from a place on, of so many nodes, was removed, since it has no next one after the members before it. Where
-- there was something, it is known what is before the place.
pub record IsWalkedTo (q : Question) (i place : ℕ) (removed : Removed) (used : List Data) (members : List Member) (gs : List (Option Data)) : Type 0 where
  pub cut : IsCut q i place used members gs
  pub room_is : filled_nodes (drop place gs) ≡ removed.room
  pub last : IsNext fill_cmp (IsRest q.pools (slots_from q i place) (demand_from place (slots_from q i 0) gs (demand_of q i used gs))) (drop place gs) None
  pub known : (removed.room ≡ 0 → ⊥) → removed.before ≡ before_at place (slots_from q i 0) gs nothing

-- a slot whose place is next, where it was walked up to it
pub record IsReached (q : Question) (t : RowSlot) (removed : Removed) (rows : List Data) (members : List Member) : Type 0 where
  pub here : IsRowSlot q t
  pub used : AreUsed q.pools (slots_from q t.node 0) rows
  pub walked : (gs : List (Option Data)) × IsWalkedTo q t.node (t.place + 1) removed rows members gs
  pub limit : members_count (members_of members) + removed.room < q.limit

-- the members are the next ones; or it was walked to the place
abbrev pub AreWalked : NextParts → Question → ℕ → ℕ → List Data → Before → List Member → List (Option Data) → Type 0
AreWalked (Made n) q i place used before members gs = AreNext q.pools (slots_from q i 0) (demand_of q i used gs) gs members
AreWalked (Last n) q i place used before members gs = IsWalkedTo q i place (record { room = n; before = before }) used members gs

-- where it did not move, what the nodes take that were removed
abbrev pub CostsLastFrom : NextParts → Question → ℕ → ℕ → ℕ → Type 0
CostsLastFrom (Made n) q room old new = Unit {0}
CostsLastFrom (Last m) q room old new = (w : ℕ) → IsWidth q w → new + (w + 1) * (2 * room) ≤ old + (w + 1) * (2 * m)

-- the members before the place are kept; where there is no next one, they are what is left
abbrev pub AreLeft : NextParts → List Member → List Member → Type 0
AreLeft (Made n) old new = take (length old) new ≡ old
AreLeft (Last n) old new = new ≡ old

-- the members are the next ones, and how many levels down they differ; or it was walked to the slot, where it was walked up to it before
abbrev pub MovesSlot : NextParts → Question → RowSlot → Removed → List Data → List Member → Removed → List Member → Type 0
MovesSlot next q t before used old after new =
    ((gs : List (Option Data)) → IsWalkedTo q t.node (t.place + 1) before used old gs → AreWalked next q t.node t.place used after.before new gs)
    × DiffersAfter before.room (tree.object (members_of old)) next (tree.object (members_of new))

-- the slots and m nodes; where there is no next one, what the nodes take that were removed
abbrev pub CostsSlot : {E : Type 0} → Result NextParts E → Question → ℕ → ℕ → ℕ → ℕ → ℕ → Type 0
CostsSlot r q i room old new m = CostsSlots q i 0 old new m × IfOk r (λ next. CostsLastFrom next q room old new)
