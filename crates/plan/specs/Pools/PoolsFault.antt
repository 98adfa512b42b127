-- What a fault says of a pools document: its first break, or that a pool has too many entries. A bad limit is not one of its faults
-- (this project's own).
use Rattle.std.specs.Prelude.{◌≡◌, string_bytes}
use Rattle.jtree.specs.Data.{Data}
use Rattle.jtree.specs.Path.{Path}
use Rattle.jtree.specs.PathOrder.{IsFirst}
use Rattle.jtree.specs.Pointer.{pointer}
use Rattle.schema.specs.declared.profile.Profile.{Profile}
use Rattle.schema.specs.declared.profile.Profile.TheVariants.{Core}
use Rattle.plan.specs.Pools.Pools.{AreSmall}
use Rattle.plan.specs.Pools.Document.{BreaksForm, HasFormBy, pools_of}
use Rattle.plan.specs.declared.pool_limits.PoolLimits.{PoolLimits}
use Rattle.plan.specs.declared.fault.PFault.{PFault}
use Rattle.plan.specs.declared.fault.PFault.TheVariants.{Form, TooLarge, NoMemory}

abbrev pub IsPoolsFaultBy : Profile → PoolLimits → Data → PFault → Type 0
IsPoolsFaultBy profile limits d (Form p) = (path : Path) × (string_bytes p ≡ pointer path) × IsFirst (BreaksForm profile d) path
IsPoolsFaultBy profile limits d TooLarge = HasFormBy profile d × (AreSmall limits (pools_of d) → ⊥)
IsPoolsFaultBy profile limits d NoMemory = Unit {0}
IsPoolsFaultBy profile limits d _ = ⊥

-- by this project's own profile
abbrev pub IsPoolsFault : PoolLimits → Data → PFault → Type 0
IsPoolsFault limits d e = IsPoolsFaultBy Core limits d e
