-- What is found of the paths of pools, one by one: the first list that is too long, and the first path that leads nowhere it should.
use Rattle.std.specs.Prelude.{◌≡◌, List, [], ℕ, Option, Some, None, nat_lt, length, if◌then◌else◌, unwrap_or, string_bytes}
use Rattle.std.specs.Borrow.{Bor}
use Rattle.std.specs.declared.cmp.Ordering.TheVariants.{Less}
use Rattle.jtree.specs.Data.{Data, Members, no_members, member}
use Rattle.jtree.specs.Order.{text_cmp}
use Rattle.schema.specs.Nodes.Node.{Node}
use Rattle.explain.specs.Fields.PathFault.{IsTextOf}
use Rattle.plan.specs.Pools.Pools.{Pools, entries_in}
use Rattle.plan.specs.Pools.FixedPaths.{IsMapList, IsFixablePath}
use Rattle.plan.specs.Pools.PlanFault.{IsLeafPath, IsDeclaredPath, IsFirstBadPath}
use Rattle.plan.specs.declared.pool_paths.Destination.{Destination}
use Rattle.plan.specs.declared.pool_paths.Destination.TheVariants as destination
use Rattle.plan.specs.declared.pool_sizes.PoolName.{PoolName}
use Rattle.plan.specs.declared.pool_sizes.Oversized.{Oversized}
use Rattle.plan.specs.declared.fault.PFault.{PFault}
use Rattle.plan.specs.declared.fault.PFault.TheVariants.{BadPath, NoMemory}

-- how many values a list has
abbrev pub list_count : Data → ℕ
list_count d = length (unwrap_or (entries_in d) [])

-- the path of the first list with more than `most` values, and how many it has
abbrev pub long_list : ℕ → Members → Option (List ℕ × ℕ)
long_list most no_members = None
long_list most (member k d ms) = if nat_lt most (list_count d) then Some (k, list_count d) else long_list most ms

abbrev pub IsLongList : (Bor (List ℕ) → PoolName) → ℕ → Members → Oversized → Type 0
IsLongList pool most ms o = (text : Bor (List ℕ)) × (o.pool ≡ pool text) × (o.allowed ≡ most) × (long_list most ms ≡ Some (text.now, o.found))

-- the text is that of a path that leads there
abbrev pub LeadsTo : Destination → Node → List ℕ → Type 0
LeadsTo destination.Leaf root text = IsLeafPath root text
LeadsTo destination.Fixable root text = IsFixablePath root text
LeadsTo destination.Declared root text = IsDeclaredPath root text

-- the text is that of a path at which there is a map list
abbrev pub IsMapListText : Node → List ℕ → Type 0
IsMapListText root text = IsTextOf (IsMapList root) text

-- the text comes before another, where there is another
abbrev pub IsBeforeText : List ℕ → Option (List ℕ) → Type 0
IsBeforeText text None = Unit {0}
IsBeforeText text (Some other) = text_cmp text other ≡ Less

-- a fault of the paths alone
abbrev pub IsPathsFault : Node → Pools → PFault → Type 0
IsPathsFault root P (BadPath text) = IsFirstBadPath root P (string_bytes text)
IsPathsFault root P NoMemory = Unit {0}
IsPathsFault root P _ = ⊥
