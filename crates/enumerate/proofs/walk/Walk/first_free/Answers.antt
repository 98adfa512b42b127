use Rattle.std.specs.Prelude.{None}
use Rattle.enumerate.proofs.samples.Following.{kept_choices}
use Rattle.enumerate.proofs.walk.Walk.first_free.Goals as goal

pub returns-clause-following : goal.returns-clause-following
returns-clause-following g c =
    let put = c.in_ok-put_first.ensures.some c.if-branch.true in
    kept_choices c.args.self.now.plan.now c.args.node c.args.size None c.args.used.now _ put.0 _ _ put.1 c.in_ok-put_first.ensures.kept c.in_ok-find_choices.ensures.ok
