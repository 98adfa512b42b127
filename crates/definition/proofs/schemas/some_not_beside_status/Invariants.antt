use Rattle.std.proofs.Common.{◌≡◌, drop}
use Rattle.jtree.specs.View.{members_of}
use Rattle.definition.specs.Schemas.{some_not_beside_status}
use Rattle.definition.proofs.schemas.some_not_beside_status.Given as goal

abbrev pub invariant-loop-keyword : goal.invariant-loop-keyword
invariant-loop-keyword l = some_not_beside_status (members_of (drop l.keyword-index l.keywords)) ≡ some_not_beside_status (members_of l.keywords)
