use Rattle.std.proofs.Common.{◌≡◌, ◌++◌, drop}
use Rattle.jtree.specs.View.{data_of}
use Rattle.judge.specs.Asked.{below, member_schema, schemas_of}
use Rattle.judge.proofs.finding.member_schemas.Given as goal

abbrev pub invariant-loop-schema : goal.invariant-loop-schema
invariant-loop-schema l =
    schemas_of l.found.items ++ below (member_schema l.name) (data_of l.value) (schemas_of (drop l.schema-index l.schemas)) ≡ below (member_schema l.name) (data_of l.value) (schemas_of l.schemas)
