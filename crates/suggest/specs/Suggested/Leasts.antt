-- Of numbers of one value that are listed samples have the least alone: where a number of an object is one of these (this project's own).
use Rattle.std.specs.Prelude.{◌≡◌, ℕ, List, false, unwrap_or}
use Rattle.jtree.specs.Data.{Data, number}
use Rattle.schema.specs.Nodes.Node.{Node}
use Rattle.plan.specs.Pools.Pools.{Pools, list_at}
use Rattle.plan.specs.Samples.Leasts.{has_lesser}
use Rattle.plan.specs.Samples.Over.{listed_for}

-- where the value is a number and no integer, no lesser number of the same value is among these; else nothing is asked
abbrev pub IsLeastAmong : List Data → Data → Type 0
IsLeastAmong ds (number s) = has_lesser (number s) ds ≡ false
IsLeastAmong ds _ = Unit {0}

-- among what the pools list at a node with this path
abbrev pub IsLeastAt : Pools → List ℕ → Node → Data → Type 0
IsLeastAt P path N v = IsLeastAmong (unwrap_or (list_at path P) (listed_for P N)) v
