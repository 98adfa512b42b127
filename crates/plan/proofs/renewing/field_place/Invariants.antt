use Rattle.std.proofs.Common.{◌≡◌, drop}
use Rattle.schema.specs.Nodes.ByPlace.{field_at}
use Rattle.schema.specs.Nodes.View.{fields_of}
use Rattle.plan.proofs.renewing.field_place.Given as goal

abbrev pub invariant-loop-at : goal.invariant-loop-at
invariant-loop-at l = field_at l.name (fields_of (drop l.at l.field-items)) ≡ field_at l.name (fields_of l.field-items)
