-- The first pool, in path order, that has more entries than the limits allow (this project's own).
use Rattle.std.specs.Prelude.{◌≡◌, ◌≢◌, ◌<◌, ℕ, [], ◌∷◌, length, unwrap_or, codes}
use Rattle.std.specs.declared.cmp.Ordering.TheVariants.{Less}
use Rattle.jtree.specs.Path.{name, Path}
use Rattle.jtree.specs.PathOrder.{path_cmp}
use Rattle.stored.specs.Objects.Fault.{members_count}
use Rattle.plan.specs.Pools.Pools.{Pools, list_at, fixed_at}
use Rattle.plan.specs.declared.pool_limits.PoolLimits.{PoolLimits}
use Rattle.plan.specs.declared.pool_sizes.PoolName.{PoolName}
use Rattle.plan.specs.declared.pool_sizes.PoolName.TheVariants.{Any, Fixed, FixedAt, Integers, Names, Numbers, Paths, At, Present, Strings}
use Rattle.plan.specs.declared.pool_sizes.Oversized.{Oversized}

-- where a pool is in the document
abbrev pub place_of : PoolName → Path
place_of Any = name (codes "any") ∷ []
place_of Fixed = name (codes "fixed") ∷ []
place_of (FixedAt text) = name (codes "fixed") ∷ name text.now ∷ []
place_of Integers = name (codes "integers") ∷ []
place_of Names = name (codes "names") ∷ []
place_of Numbers = name (codes "numbers") ∷ []
place_of Paths = name (codes "paths") ∷ []
place_of (At text) = name (codes "paths") ∷ name text.now ∷ []
place_of Present = name (codes "present") ∷ []
place_of Strings = name (codes "strings") ∷ []

-- how many entries it has
abbrev pub size_of : PoolName → Pools → ℕ
size_of Any P = length P.any
size_of Fixed P = members_count P.fixed
size_of (FixedAt text) P = length (unwrap_or (fixed_at text.now P) [])
size_of Integers P = length P.integers
size_of Names P = length P.names
size_of Numbers P = length P.numbers
size_of Paths P = members_count P.paths
size_of (At text) P = length (unwrap_or (list_at text.now P) [])
size_of Present P = length P.present
size_of Strings P = length P.strings

-- how many it may have
abbrev pub most_of : PoolName → PoolLimits → ℕ
most_of Fixed limits = limits.paths
most_of Names limits = limits.names
most_of Paths limits = limits.paths
most_of Present limits = limits.paths
most_of _ limits = limits.entries

pub record IsOversized (limits : PoolLimits) (P : Pools) (o : Oversized) : Type 0 where
  pub found : o.found ≡ size_of o.pool P
  pub allowed : o.allowed ≡ most_of o.pool limits
  pub over : o.allowed < o.found
  pub first : (pool : PoolName) → most_of pool limits < size_of pool P → path_cmp (place_of pool) (place_of o.pool) ≢ Less
