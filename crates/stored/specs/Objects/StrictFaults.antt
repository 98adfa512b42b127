-- Strict faults: the faults of an object, and each member that pruning drops (apiextensions.k8s.io/v1, "field pruning"; that it is
-- a fault is this project's own).
use Rattle.std.specs.Prelude.{◌≡◌, ◌⊎◌, List, [], ◌∷◌, ◌++◌, true, Some}
use Rattle.jtree.specs.Data.{Data}
use Rattle.jtree.specs.Path.{Step, Path, part_by}
use Rattle.schema.specs.Nodes.Node.{Node}
use Rattle.stored.specs.Objects.Parts.{pair, at, part_by_path}
use Rattle.stored.specs.Objects.Fault.{Test, F15, HasFault}
use Rattle.stored.specs.Objects.AllFaults.{AreReported}
use Rattle.stored.specs.Objects.Becomes.{cuts, leads_uncut}
use Rattle.stored.specs.declared.fault.Fault.{Fault}

-- a member is dropped: the step to it is cut, and none before that
pub record IsDropped (N : Node) (v : Data) (path : Path) : Type 0 where
  -- to the object that has the member, and the step from there
  pub before : Path
  pub last : Step
  pub is : path ≡ before ++ (last ∷ [])
  pub node : Node
  pub value : Data
  pub leads_there : part_by_path leads_uncut (at N v) before ≡ Some (at node value)
  pub member : Data
  pub there : part_by value last ≡ Some member
  pub cut : cuts (pair node value) last ≡ true

-- the object has this strict fault at the path
abbrev pub HasStrictFault : Node → Data → Path → Test → Type 0
HasStrictFault N v path t = HasFault N v path t ⊎ ((t ≡ F15) × IsDropped N v path)

-- all of them, in order
abbrev pub AreStrictFaults : Node → Data → List Fault → Type 0
AreStrictFaults N v faults = AreReported (HasStrictFault N v) faults

-- no place has one
abbrev pub IsStrictlyValid : Node → Data → Type 0
IsStrictlyValid N v = (path : Path) (t : Test) → HasStrictFault N v path t → ⊥
