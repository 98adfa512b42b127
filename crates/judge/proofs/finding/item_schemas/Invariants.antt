use Rattle.std.proofs.Common.{◌≡◌, ◌++◌, drop}
use Rattle.jtree.specs.View.{data_of}
use Rattle.judge.specs.Asked.{below, item_schema, schemas_of}
use Rattle.judge.proofs.finding.item_schemas.Given as goal

abbrev pub invariant-loop-schema : goal.invariant-loop-schema
invariant-loop-schema l =
    schemas_of l.found.items ++ below item_schema (data_of l.value) (schemas_of (drop l.schema-index l.schemas)) ≡ below item_schema (data_of l.value) (schemas_of l.schemas)
