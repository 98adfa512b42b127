use Rattle.std.proofs.Common.{◌≡◌, drop}
use Rattle.jtree.specs.View.{data_of}
use Rattle.judge.specs.Asked.{value_at, schemas_of}
use Rattle.judge.specs.Faults.{fails_at}
use Rattle.judge.specs.Internal.FaultsByLevel.{failing, progress, added}
use Rattle.judge.proofs.finding.find_failing.Given as goal

abbrev pub invariant-loop-test : goal.invariant-loop-test
invariant-loop-test g l =
    let fails = fails_at g.A.PlaceTests.asking (value_at (schemas_of l.schemas) l.is_repeated (data_of l.value)) in
    added (progress l.report) (failing fails (drop l.test-index l.asked)) ≡ added (progress l.initial.report) (failing fails l.asked)
