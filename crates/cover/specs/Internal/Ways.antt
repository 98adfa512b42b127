-- Where a path leads from a node.
use Rattle.std.specs.Prelude.{◌≡◌, ◌≢◌, ◌++◌, ℕ, List, Some}
use Rattle.schema.specs.Nodes.Node.{Node, Fields}
use Rattle.schema.specs.Nodes.ByPlace.{Declared, field_at, node_at}
use Rattle.explain.specs.Paths.FieldPath.{field, FieldPath, place_of}
use Rattle.explain.specs.Paths.PathText.{path_text}
use Rattle.plan.specs.Samples.Site.{below}
pub use Rattle.plan.specs.Pools.PathSteps.{step_of, path_of}

-- behind this front, no path that leads somewhere from the node has the text
abbrev pub LeadsNowhere : List ℕ → Node → List ℕ → Type 0
LeadsNowhere front N text = (p : FieldPath) (M : Node) → node_at N (place_of p) ≡ Some M → front ++ path_text p ≢ text

-- and none from one of the fields
abbrev pub NoneLeads : List ℕ → Fields → List ℕ → Type 0
NoneLeads front fs text = (k : List ℕ) (f : Declared) → field_at k fs ≡ Some f → LeadsNowhere (below front (field k)) f.node text
