use Rattle.std.proofs.Common.{◌≡◌, drop}
use Rattle.schema.specs.Nodes.View.{fields_of}
use Rattle.plan.specs.Samples.Over.{asks_field}
use Rattle.plan.proofs.asked.asks_field.Given as goal

abbrev pub invariant-loop-field : goal.invariant-loop-field
invariant-loop-field l = asks_field l.pools l.path (fields_of (drop l.field-index l.field-items)) ≡ asks_field l.pools l.path l.fields
