-- Samples have none of the paths that never occur (this project's own).
use Rattle.std.specs.Prelude.{◌≡◌, ℕ, [], ◌∷◌, None, Contains}
use Rattle.jtree.specs.Data.{Data}
use Rattle.jtree.specs.Path.{Path, part_at}
use Rattle.schema.specs.Nodes.Node.{Node, IsNode}
use Rattle.explain.specs.Paths.FieldPath.{FieldPath}
use Rattle.explain.specs.Paths.PathText.{path_text}
use Rattle.plan.specs.declared.pool_limits.PoolLimits.{PoolLimits}
use Rattle.plan.specs.Pools.Document.{pools_of}
use Rattle.plan.specs.Pools.FixedPaths.{IsFixablePath}
use Rattle.plan.specs.Samples.Over.{StepFollows}
use Rattle.plan.specs.Samples.Part.{IsSample}
use Rattle.suggest.specs.Suggested.Document.{suggested_document}
use Rattle.suggest.specs.Suggested.Wanted.{Wanted}

-- the steps into a value are those of the path, one by one
abbrev pub Follows : Path → FieldPath → Type 0
Follows [] [] = Unit {0}
Follows (s ∷ path) (t ∷ p) = StepFollows s t × Follows path p
Follows _ _ = ⊥

-- Where a path is left out that can be left out, no sample over the suggested pools has a part to which it leads, whatever else is asked.
abbrev pub NoSampleHasALeftOutPath : Type 0
NoSampleHasALeftOutPath = (limits : PoolLimits) (raw : Data) (root : Node) (w : Wanted) (limit : ℕ) (v : Data) (p : FieldPath) (path : Path)
    → IsNode root → Contains w.without (path_text p) → IsFixablePath root (path_text p) → IsSample root (pools_of (suggested_document limits raw root w)) limit v → Follows path p → part_at v path ≡ None
