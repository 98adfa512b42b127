-- All that is wrong with an object: each pair of a path and a number once, in path order and then by number (the order is this
-- project's own).
use Rattle.std.specs.Prelude.{◌≡◌, ℕ, List, map, All, AllPairs, Contains, string_bytes}
use Rattle.std.specs.Ordering.{nat_cmp, ordering_then}
use Rattle.std.specs.declared.cmp.Ordering.{Ordering}
use Rattle.std.specs.declared.cmp.Ordering.TheVariants.{Less}
use Rattle.jtree.specs.Data.{Data}
use Rattle.jtree.specs.Path.{Path}
use Rattle.jtree.specs.PathOrder.{path_cmp}
use Rattle.jtree.specs.Pointer.{pointer}
use Rattle.schema.specs.Nodes.Node.{Node}
use Rattle.stored.specs.Objects.Fault.{Test, number, HasFault}
use Rattle.stored.specs.declared.fault.Fault.{Fault}

-- a path and the test that fails there
pub record Failure : Type 0 where
  pub path : Path
  pub test : Test

abbrev pub failure_cmp : Failure → Failure → Ordering
failure_cmp f g = ordering_then (path_cmp f.path g.path) (nat_cmp (number f.test) (number g.test))

-- these are all the failures that there are, in order
pub record AreFailures (Has : Path → Test → Type 0) (fs : List Failure) : Type 0 where
  pub each : All (λ f. Has f.path f.test) fs
  pub all : (path : Path) (t : Test) → Has path t → Contains fs (record { path = path; test = t })
  pub ascending : AllPairs (λ f g. failure_cmp f g ≡ Less) fs

-- a fault as the pointer of its path and its number
pub record Reported : Type 0 where
  pub path : List ℕ
  pub number : ℕ

abbrev pub reported : Fault → Reported
reported f = record { path = string_bytes f.path; number = f.number }

abbrev pub reported_of : Failure → Reported
reported_of f = record { path = pointer f.path; number = number f.test }

-- the faults report all failures, in order
abbrev pub AreReported : (Path → Test → Type 0) → List Fault → Type 0
AreReported Has faults = (fs : List Failure) × AreFailures Has fs × (map reported faults ≡ map reported_of fs)

abbrev pub AreFaults : Node → Data → List Fault → Type 0
AreFaults N v faults = AreReported (HasFault N v) faults
