-- The faults that `validate` looks for, with `--strict` or without.
use Rattle.std.specs.Prelude.{List, Bool, true, false}
use Rattle.jtree.specs.Data.{Data}
use Rattle.schema.specs.Nodes.Node.{Node}
use Rattle.stored.specs.Objects.AllFaults.{AreFaults}
use Rattle.stored.specs.Objects.StrictFaults.{AreStrictFaults}
use Rattle.stored.specs.declared.fault.Fault.{Fault}

abbrev pub AreFound : Bool → Node → Data → List Fault → Type 0
AreFound false N v faults = AreFaults N v faults
AreFound true N v faults = AreStrictFaults N v faults
