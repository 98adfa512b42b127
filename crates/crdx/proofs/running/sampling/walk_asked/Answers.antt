use Rattle.std.proofs.Common.{◌≡◌, ap, ◌∙◌, option_map}
use Rattle.jtree.specs.View.{data_of}
use Rattle.enumerate.specs.View.{resume_point}
use Rattle.crdx.proofs.WalkLemmas.{resumed}
use Rattle.crdx.proofs.running.sampling.walk_asked.Goals as goal

pub returns-then-arguments-clause-cut : goal.returns-then-arguments-clause-cut
returns-then-arguments-clause-cut g c =
    let place : resume_point c.as_ref-after.result ≡ option_map data_of c.args.source.now.after = resumed c.as_ref-after.result ∙ ap (option_map data_of) c.as_ref-after.ensures.value in
    rw (← place, ← c.as_ref-envelope.ensures.value, c.if-arguments.true) c.walk_to_end.ensures.cut

pub returns-else-arguments-clause-cut : goal.returns-else-arguments-clause-cut
returns-else-arguments-clause-cut g c =
    let place : resume_point c.as_ref-after.result ≡ option_map data_of c.args.source.now.after = resumed c.as_ref-after.result ∙ ap (option_map data_of) c.as_ref-after.ensures.value in
    rw (← place, ← c.as_ref-envelope.ensures.value, c.if-arguments.false) c.walk.ensures.cut
