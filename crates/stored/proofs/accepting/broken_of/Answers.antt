use Rattle.std.proofs.Common.{subst, sym}
use Rattle.schema.specs.Rules.Breaks.{AreViolations}
use Rattle.stored.specs.Schemas.Accepted.{IsBroken}
use Rattle.stored.proofs.DefaultListLemmas.{nothing_broken}
use Rattle.stored.proofs.accepting.broken_of.Goals as goal

pub returns-in-Ok : goal.returns-in-Ok
returns-in-Ok c = subst (AreViolations (IsBroken c.args.raw.now)) (sym c.new.ensures.items) (nothing_broken c.args.raw.now _ (rw c.in-Ok.is at c.requires.accepted))

pub returns-in-Err-Violations : goal.returns-in-Err-Violations
returns-in-Err-Violations c = rw c.in-Err-Violations.field-0-is (rw (c.in-Err-Violations.is, c.in-Err-Violations.field-0-is) at c.requires.refused).0
