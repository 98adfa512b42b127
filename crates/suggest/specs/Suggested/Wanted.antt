-- What pools are suggested for besides a schema: objects, the paths at which the one object is varied, and the paths that never occur
-- (this project's own).
use Rattle.std.specs.Prelude.{ℕ, List}
use Rattle.jtree.specs.Data.{Data}

pub record Wanted : Type 0 where
  pub objects : List Data
  pub varied : List (List ℕ)
  pub without : List (List ℕ)
