-- What it is to be a part, as one pass over a tree tests it.
use Rattle.std.specs.Prelude.{◌≡◌, ℕ, List, [], ◌∷◌, Option, Some, None}
use Rattle.jtree.specs.Data.{Data, Items, Members}
use Rattle.jtree.specs.Data as tree
use Rattle.plan.specs.Pools.Pools.{Pools}
use Rattle.plan.specs.Samples.Part.{IsPart}
use Rattle.plan.specs.Samples.Sites.{Slot}
use Rattle.plan.specs.Samples.Sizes.{AreFillings, Before, nothing, state_after, Ending, CanFill}
use Rattle.plan.specs.Samples.RuleOfParts.{members_in}
use Rattle.plan.specs.Samples.Question.{Question}
use Rattle.enumerate.specs.Internal.Nodes.{site}
use Rattle.enumerate.specs.Internal.Rows.{slots_from, ending_at, still_used}

-- the used rows that have the same values under all keys as what is in the slots
abbrev pub still_left : List Slot → List (Option Data) → List Data → List Data
still_left (s ∷ ss) (Some v ∷ gs) used = still_left ss gs (still_used s v used)
still_left (s ∷ ss) (None ∷ gs) used = still_left ss gs used
still_left _ _ used = used

-- the members are in the slots, the row may end after them, where this is before them, and no used row has the same values under all
-- keys
pub record MakeUnusedRow (P : Pools) (ss : List Slot) (end : Ending) (x : Before) (used : List Data) (ms : Members) : Type 0 where
  pub fillings : List (Option Data)
  pub are : ms ≡ members_in ss fillings
  pub parts : AreFillings P ss fillings
  pub ends : CanFill P [] end (state_after ss fillings x) 0
  pub unused : still_left ss fillings used ≡ []

-- of the slots of a row from a place on
abbrev pub MakeUnusedRowFrom : Question → ℕ → ℕ → Before → List Data → Members → Type 0
MakeUnusedRowFrom q i place x used ms = MakeUnusedRow q.pools (slots_from q i place) (ending_at q i) x used ms

-- an object that is a part, and differs from each used row in the value of some key
abbrev pub IsUnusedRow : Question → ℕ → List Data → Data → Type 0
IsUnusedRow q i used v = (ms : Members) × ((v ≡ tree.object ms) × MakeUnusedRowFrom q i 0 nothing used ms)

-- a list that is a part
abbrev pub IsListOf : Question → ℕ → Data → Type 0
IsListOf q i v = (ds : Items) × ((v ≡ tree.list ds) × IsPart q.pools (site q i) (tree.list ds))
