-- What `explain` answers of the fields of a schema that breaks no rule, by the node of its root (this project's own words).
use Rattle.std.specs.Prelude.{◌≡◌, ℕ, List, [], Option, Some, None}
use Rattle.std.specs.Borrow.{Bor}
use Rattle.schema.specs.Nodes.Node.{Node}
use Rattle.explain.specs.Fields.Declared.{IsDeclared, AreFields}
use Rattle.explain.specs.Fields.Field.{Field, field_at}
use Rattle.explain.specs.Fields.PathFault.{IsTextOf, IsPathFault}
use Rattle.explain.specs.declared.fault.XFault.{XFault}
use Rattle.crdx.specs.Program.FieldLines.{field_lines, all_of_field}

-- the exit status, and the whole text on standard output, for the text of a path or for none
pub data IsFieldAnswer (root : Node) : Option (Bor (List ℕ)) → ℕ → List ℕ → Type 0 where
  listed : (fs : List Field) → AreFields root fs → IsFieldAnswer root None 0 (field_lines fs)
  found : (path : Bor (List ℕ)) (f : Field) → IsTextOf (λ p. IsDeclared root p × (field_at root p ≡ Some f)) path.now → IsFieldAnswer root (Some path) 0 (all_of_field f)
  -- the fault is on standard error
  not_found : (path : Bor (List ℕ)) (fault : XFault) → IsPathFault (IsDeclared root) path.now fault → IsFieldAnswer root (Some path) 1 []
