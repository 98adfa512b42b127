-- What is wanted of the samples of a cover: that a path is there, or that it is there with a value (this project's own).
use Rattle.std.specs.Prelude.{◌≡◌, ℕ, List, [], ◌∷◌, ◌++◌, Bool, true, Option, Some, None, map}
use Rattle.jtree.specs.Data.{Data}
use Rattle.schema.specs.Nodes.Node.{Node, node, scalar}
use Rattle.schema.specs.Nodes.ByPlace.{node_at}
use Rattle.explain.specs.Fields.PathFault.{IsTextOf}
use Rattle.explain.specs.Paths.FieldPath.{place_of}
use Rattle.plan.specs.Pools.Pools.{Pools}
use Rattle.plan.specs.Samples.Candidates.{AreCandidates}
use Rattle.plan.specs.Samples.Question.{Question}
use Rattle.plan.specs.Samples.Site.{plain}

-- a path, by its text, with any value or with this one
pub record Wanted : Type 0 where
  pub path : List ℕ
  pub value : Option Data

abbrev pub with_any : List ℕ → Wanted
with_any path = record { path = path; value = None }

abbrev pub with_value : List ℕ → Data → Wanted
with_value path v = record { path = path; value = Some v }

-- the values that are wanted at a node with this path: all candidates of a scalar over the pools, in the tree order, where values are
-- wanted at all; and else none. What the pools fix above the node makes no difference; where they fix its own values, there are no others.
abbrev pub AreValuesAt : Bool → Pools → ℕ → List ℕ → Node → List Data → Type 0
AreValuesAt true P limit path (node nullable description (scalar kind cs)) vs = AreCandidates P limit (plain P path (node nullable description (scalar kind cs))) vs
AreValuesAt _ P limit path N vs = vs ≡ []

-- the values that are wanted at the path with this text
abbrev pub AreValuesOf : Bool → Question → List ℕ → List Data → Type 0
AreValuesOf values q path vs = IsTextOf (λ p. (N : Node) × (node_at q.root (place_of p) ≡ Some N) × AreValuesAt values q.pools q.limit path N vs) path

-- what is wanted of these paths: of one after the other that it is there, and then that it is there with each of its values
pub data AreWanted (values : Bool) (q : Question) : List (List ℕ) → List Wanted → Type 0 where
  none : AreWanted values q [] []
  more : (paths : List (List ℕ)) (wanted : List Wanted) (path : List ℕ) (vs : List Data) → AreWanted values q paths wanted → AreValuesOf values q path vs
      → AreWanted values q (paths ++ path ∷ []) (wanted ++ with_any path ∷ map (with_value path) vs)
