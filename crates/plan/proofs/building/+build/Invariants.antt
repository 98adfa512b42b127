use Rattle.std.proofs.Common.{take}
use Rattle.schema.specs.Nodes.View.{fields_of}
use Rattle.plan.specs.Internal.Building.{BuildsFields}
use Rattle.plan.proofs.building.+build.Given as goal

abbrev pub invariant-build_fields-loop-field : goal.invariant-build_fields-loop-field
invariant-build_fields-loop-field g l = BuildsFields g.Z.SizeSet.holds l.fn.arena l.arena l.pools l.path (fields_of (take l.field-index l.field-items)) l.keys l.named l.slots.items
