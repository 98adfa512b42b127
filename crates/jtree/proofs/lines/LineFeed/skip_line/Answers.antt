use Rattle.std.proofs.Common.{◌++◌, refl, ap, ◌∙◌}
use Rattle.std.proofs.KnownBytes.{Consumes-trans, Consumes-kept}
use Rattle.jtree.proofs.LineLemmas.{skipped_more, skipped_to_end, skipped_to_newline, met_taken}
use Rattle.jtree.proofs.lines.LineFeed.skip_line.Goals as goal

pub returns-in_err-read_ahead-clause-taken : goal.returns-in_err-read_ahead-clause-taken
returns-in_err-read_ahead-clause-taken g c =
    let before = c.loop-piece.invariant.skipped in
    let lost = c.in_err-read_ahead.ensures.taken in
    (before.0 ++ lost.0, Consumes-trans _ _ _ before.0 lost.0 before.1.1 lost.1)

pub returns-then-not-branch-clause-skipped : goal.returns-then-not-branch-clause-skipped
returns-then-not-branch-clause-skipped g c = λ old front before none long.
    let skipped = c.loop-piece.invariant.skipped in
    let rest = c.in_ok-read_ahead.ensures.end c.if-not-branch.true in
    skipped_to_end old _ (g.T.Source.remaining c.read_ahead.new.self.source) front before none long c.read_ahead.new.self.at c.read_ahead.new.self.piece.items
    (skipped.0, (skipped.1.0, Consumes-kept _ _ _ skipped.0 skipped.1.1 c.in_ok-read_ahead.ensures.same)) rest.0 rest.1

pub returns-then-branch-clause-skipped : goal.returns-then-branch-clause-skipped
returns-then-branch-clause-skipped g c = λ old front before none long.
    let skipped = c.loop-piece.invariant.skipped in
    skipped_to_newline old _ (g.T.Source.remaining c.read_ahead.new.self.source) front before none long (g.T.Source.remaining c.take_part.new.self.source) (ap g.T.Source.remaining c.in_ok-take_part.ensures.same.0)
    c.in_ok-take_part.field-0 _ _ _ _ c.if-branch.true (skipped.0, (skipped.1.0, Consumes-kept _ _ _ skipped.0 skipped.1.1 c.in_ok-read_ahead.ensures.same)) c.in_ok-take_part.ensures.part

pub returns-then-branch-clause-taken : goal.returns-then-branch-clause-taken
returns-then-branch-clause-taken g c =
    let skipped = c.loop-piece.invariant.skipped in
    let p = c.in_ok-take_part.ensures.part in
    met_taken _ (g.T.Source.remaining c.read_ahead.new.self.source) (g.T.Source.remaining c.take_part.new.self.source) (ap g.T.Source.remaining c.in_ok-take_part.ensures.same.0) c.in_ok-take_part.field-0 _ _ skipped.0 (skipped.0 ++ p.part) c.if-branch.true
    (Consumes-kept _ _ _ skipped.0 skipped.1.1 c.in_ok-read_ahead.ensures.same) (record { part = p.part; line_is = refl; one = p.one; adds = p.adds })

pub loop-piece-preserved : goal.loop-piece-preserved
loop-piece-preserved g c =
    let skipped = c.loop-piece.invariant.skipped in
    record {
      skipped = skipped_more _ (g.T.Source.remaining c.read_ahead.new.self.source) (g.T.Source.remaining c.take_part.new.self.source) (ap g.T.Source.remaining c.in_ok-take_part.ensures.same.0) c.in_ok-take_part.field-0 _ _ _ _ c.if-branch.false
          (skipped.0, (skipped.1.0, Consumes-kept _ _ _ skipped.0 skipped.1.1 c.in_ok-read_ahead.ensures.same)) c.in_ok-take_part.ensures.part;
      failures = ap g.T.Source.failures c.in_ok-take_part.ensures.same.0 ∙ (c.in_ok-read_ahead.ensures.unfailed (λ e. cc) ∙ c.loop-piece.invariant.failures);
    }
