use Rattle.std.proofs.Common.{rules}
use Rattle.crdx.proofs.sink.PlainSink.put.Goals as goal

pub returns-then-not-is_empty-clause-counts : goal.returns-then-not-is_empty-clause-counts
returns-then-not-is_empty-clause-counts c = search rules
