use Rattle.std.proofs.Common.{◌≡◌, drop}
use Rattle.schema.specs.Nodes.ByPlace.{field_at}
use Rattle.schema.specs.Nodes.View.{fields_of}
use Rattle.stored.proofs.fields.field_named.Given as goal

-- the name is not among the fields so far
abbrev pub invariant-loop-field : goal.invariant-loop-field
invariant-loop-field l = field_at l.name (fields_of (drop l.field-index l.field-items)) ≡ field_at l.name (fields_of l.field-items)
