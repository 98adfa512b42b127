-- Pools that differ along one path alone, and what is the same at a site beside it.
use Rattle.std.specs.Prelude.{◌≡◌, ◌++◌, ℕ, List}
use Rattle.explain.specs.Paths.FieldPath.{FieldStep, FieldPath}
use Rattle.explain.specs.Paths.PathText.{path_text}
use Rattle.plan.specs.Pools.Pools.{Pools, fixed_at, is_present}
use Rattle.plan.specs.Samples.Over.{scalars_of}
use Rattle.plan.specs.Samples.Sites.{below}

-- they list the same values and names
pub record ListTheSame (P Q : Pools) : Type 0 where
  pub scalars : scalars_of Q ≡ scalars_of P
  pub numbers : Q.numbers ≡ P.numbers
  pub any : Q.any ≡ P.any
  pub paths : Q.paths ≡ P.paths
  pub names : Q.names ≡ P.names

-- they ask for the path of a text or do not, and fix the same there
abbrev pub IsSameAt : Pools → Pools → List ℕ → Type 0
IsSameAt P Q text = (is_present text Q ≡ is_present text P) × (fixed_at text Q ≡ fixed_at text P)

-- and at all paths that continue it
abbrev pub AreSameBelow : Pools → Pools → List ℕ → Type 0
AreSameBelow P Q text = (t : FieldStep) (x : FieldPath) → IsSameAt P Q (below text t ++ path_text x)
