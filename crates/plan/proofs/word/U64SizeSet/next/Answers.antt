use Rattle.std.specs.Int.{w64}
use Rattle.plan.proofs.WordLemmas.{none_from, least_from}
use Rattle.plan.proofs.word.U64SizeSet.next.Goals as goal

pub returns-then-rest-eq0 : goal.returns-then-rest-eq0
returns-then-rest-eq0 c = none_from 64 c.args.self c.args.n c.if-rest-eq0.true

pub returns-else-rest-eq0 : goal.returns-else-rest-eq0
returns-else-rest-eq0 c = least_from w64 c.args.self c.args.n c.ranges.self.fits c.if-rest-eq0.false
