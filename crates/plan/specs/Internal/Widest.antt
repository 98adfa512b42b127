-- The widest of the first sites of a plan.
use Rattle.std.specs.Prelude.{◌≡◌, ℕ, ◌≤◌, ◌<◌, ◌⊎◌, List}
use Rattle.plan.specs.Pools.Pools.{Pools}
use Rattle.plan.specs.Samples.Sites.{Site}
use Rattle.plan.specs.Samples.Candidates.{HasWidth}
use Rattle.plan.specs.Samples.Sites.{site_at}

pub record IsWidest (P : Pools) (limit : ℕ) (sites : List Site) (count width : ℕ) : Type 0 where
  pub each : (i w : ℕ) → i < count → HasWidth P limit (site_at sites i) w → w ≤ width
  pub reached : (width ≡ 0) ⊎ ((i : ℕ) × ((i < count) × HasWidth P limit (site_at sites i) width))
