use Rattle.judge.specs.Patterns.{reported}
use Rattle.crdx.proofs.PatternLemmas.{passed_more}
use Rattle.crdx.proofs.running.schema_patterns.compile_one.Goals as goal

pub returns-in_ok-push-in-Ok : goal.returns-in_ok-push-in-Ok
returns-in_ok-push-in-Ok c = λ ps are. passed_more ps _ (reported c.args.pattern.now) are c.in-Ok.ensures.pattern
