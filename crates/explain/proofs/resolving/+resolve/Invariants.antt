use Rattle.std.proofs.Common.{◌≡◌, ◌++◌, drop}
use Rattle.schema.specs.Nodes.View.{fields_of}
use Rattle.explain.specs.Paths.FieldPath.{FieldStep, FieldPath}
use Rattle.explain.specs.Paths.PathText.{step_text, path_text}
use Rattle.explain.specs.Internal.Resolving.{field_below}
use Rattle.explain.proofs.resolving.+resolve.Given as goal

-- the fields so far have other names
abbrev pub invariant-node_in-loop-field : goal.invariant-node_in-loop-field
invariant-node_in-loop-field l = (s : FieldStep) (p : FieldPath) → step_text s ++ path_text p ≡ l.text
    → field_below (fields_of (drop l.field-index l.field-items)) s ≡ field_below (fields_of l.field-items) s
