use Rattle.std.proofs.Common.{refl, subst, None, false}
use Rattle.enumerate.specs.Internal.Current.{Advances}
use Rattle.enumerate.proofs.pages.Live.{advanced, within_delay}
use Rattle.enumerate.proofs.live.Live.advance.Goals as goal

pub returns-in-Ok-true-clause-steps : goal.returns-in-Ok-true-clause-steps
returns-in-Ok-true-clause-steps g c = within_delay c.args.self.now c.self.inside.walk.plan.now c.self.inside.current c.self.view_is c.args.meter.now c.advance.new.meter c.advance.ensures.steps

pub returns-in-Ok-false-clause-ok : goal.returns-in-Ok-false-clause-ok
returns-in-Ok-false-clause-ok g c = advanced c.args.self.now c.self.inside.walk.plan.now c.self.inside.current c.self.view_is c.in-Some.current None false c.in-Some.is (subst (Advances c.self.inside.walk.plan.now c.in-Some.current c.advance.new.self) c.in-Ok-false.field-0-test c.in-Ok-false.ensures.ok) refl

pub returns-in-Ok-false-clause-steps : goal.returns-in-Ok-false-clause-steps
returns-in-Ok-false-clause-steps g c = within_delay c.args.self.now c.self.inside.walk.plan.now c.self.inside.current c.self.view_is c.args.meter.now c.advance.new.meter c.advance.ensures.steps

pub returns-in-Err-clause-steps : goal.returns-in-Err-clause-steps
returns-in-Err-clause-steps g c = within_delay c.args.self.now c.self.inside.walk.plan.now c.self.inside.current c.self.view_is c.args.meter.now c.advance.new.meter c.advance.ensures.steps
