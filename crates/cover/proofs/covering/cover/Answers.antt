use Rattle.cover.proofs.covering.cover.Goals as goal

pub returns : goal.returns
returns g c =
    let inv = c.path.invariant in
    rw (← inv.values, ← inv.question, c.into_covered.ensures) (c.is_done.ensures.whole c.path-test.false)
