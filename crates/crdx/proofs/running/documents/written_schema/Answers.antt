use Rattle.std.proofs.Common.{subst}
use Rattle.crdx.specs.Program.Requested.{HasPatterns}
use Rattle.crdx.proofs.running.documents.written_schema.Goals as goal

pub returns-in-Ok-clause-patterns : goal.returns-in-Ok-clause-patterns
returns-in-Ok-clause-patterns g c = subst HasPatterns c.tree.ensures.data c.in-Ok.ensures.patterns
