use Rattle.std.proofs.Common.{◌≡◌, drop}
use Rattle.jtree.specs.View.{data_of}
use Rattle.judge.specs.Keywords.{texts}
use Rattle.judge.specs.Faults.{some_fails}
use Rattle.judge.specs.Asked.{schemas_of}
use Rattle.judge.proofs.asking.some_fails.Given as goal

abbrev pub invariant-loop-schema : goal.invariant-loop-schema
invariant-loop-schema g l =
    let m = texts g.T.TextTests.matches g.T.FormatTests.is_format g.T.FormatTests.has_format in
    some_fails m (schemas_of (drop l.schema-index l.schemas)) (data_of l.value) l.test ≡ some_fails m (schemas_of l.schemas) (data_of l.value) l.test
