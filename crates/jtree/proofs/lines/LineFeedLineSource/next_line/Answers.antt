use Rattle.std.proofs.Common.{◌≡◌, ℕ, List, [], ◌∷◌, ◌++◌, length, vec_len, not, false, refl, sym, ap, ◌∙◌, arith}
use Rattle.std.specs.Prelude.{◌==◌}
use Rattle.std.proofs.lemmas.Bool.Decides.{nat_tests}
use Rattle.std.proofs.KnownBytes.{Consumes-trans, Consumes-kept}
use Rattle.jtree.proofs.LineLemmas.{nothing_taken, met_line, met_taken, long_to_newline}
use Rattle.jtree.proofs.lines.LineFeedLineSource.next_line.Goals as goal

empty : (line : List ℕ) (n : ℕ) → n ≡ length line → not (n == 0) ≡ false → line ≡ []
empty [] n counted e = refl
empty (b ∷ line) n counted e = absurd (grind (arith, nat_tests))

pub returns-in_err-read_ahead-clause-taken : goal.returns-in_err-read_ahead-clause-taken
returns-in_err-read_ahead-clause-taken g c = let lost = c.in_err-read_ahead.ensures.taken in (c.line.line.items ++ lost.0, Consumes-trans _ _ _ c.line.line.items lost.0 c.line.invariant.taken lost.1)

pub returns-then-not-branch-clause-end : goal.returns-then-not-branch-clause-end
returns-then-not-branch-clause-end g c = λ none.
    let rest = c.in_ok-read_ahead.ensures.end c.if-not-branch.true in
    nothing_taken _ _ c.read_ahead.new.self.at c.read_ahead.new.self.piece.items c.line.line.items (Consumes-kept _ _ _ c.line.line.items c.line.invariant.taken c.in_ok-read_ahead.ensures.same) rest.0 rest.1 (empty c.line.line.items (vec_len c.line.line) (omega (arith, c.line.line.ok)) (ap not (sym c.is_empty.ensures) ∙ none))

pub returns-then-len-le-MOST_BYTES-clause-line : goal.returns-then-len-le-MOST_BYTES-clause-line
returns-then-len-le-MOST_BYTES-clause-line g c = λ more. met_line _ (g.T.Source.remaining c.read_ahead.new.self.source) (g.T.Source.remaining c.take_part.new.self.source) (ap g.T.Source.remaining c.in_ok-take_part.ensures.same.0) c.in_ok-take_part.field-0 _ _ c.line.line.items _ c.if-branch.true (Consumes-kept _ _ _ c.line.line.items c.line.invariant.taken c.in_ok-read_ahead.ensures.same) c.line.invariant.one c.in_ok-take_part.ensures.part

pub returns-then-len-le-MOST_BYTES-clause-taken : goal.returns-then-len-le-MOST_BYTES-clause-taken
returns-then-len-le-MOST_BYTES-clause-taken g c = met_taken _ (g.T.Source.remaining c.read_ahead.new.self.source) (g.T.Source.remaining c.take_part.new.self.source) (ap g.T.Source.remaining c.in_ok-take_part.ensures.same.0) c.in_ok-take_part.field-0 _ _ c.line.line.items _ c.if-branch.true (Consumes-kept _ _ _ c.line.line.items c.line.invariant.taken c.in_ok-read_ahead.ensures.same) c.in_ok-take_part.ensures.part

pub returns-else-len-le-MOST_BYTES-clause-too_long : goal.returns-else-len-le-MOST_BYTES-clause-too_long
returns-else-len-le-MOST_BYTES-clause-too_long g c = λ e. long_to_newline _ (g.T.Source.remaining c.read_ahead.new.self.source) (g.T.Source.remaining c.take_part.new.self.source) (ap g.T.Source.remaining c.in_ok-take_part.ensures.same.0) c.in_ok-take_part.field-0 _ _ c.line.line.items _ c.if-branch.true (Consumes-kept _ _ _ c.line.line.items c.line.invariant.taken c.in_ok-read_ahead.ensures.same) c.line.invariant.one c.in_ok-take_part.ensures.part
    (omega (arith, c.if-len-le-MOST_BYTES.false, c.len-then-branch.ensures))

pub returns-else-len-le-MOST_BYTES-clause-taken : goal.returns-else-len-le-MOST_BYTES-clause-taken
returns-else-len-le-MOST_BYTES-clause-taken g c = met_taken _ (g.T.Source.remaining c.read_ahead.new.self.source) (g.T.Source.remaining c.take_part.new.self.source) (ap g.T.Source.remaining c.in_ok-take_part.ensures.same.0) c.in_ok-take_part.field-0 _ _ c.line.line.items _ c.if-branch.true (Consumes-kept _ _ _ c.line.line.items c.line.invariant.taken c.in_ok-read_ahead.ensures.same) c.in_ok-take_part.ensures.part

pub returns-in_err-skip_line-clause-taken : goal.returns-in_err-skip_line-clause-taken
returns-in_err-skip_line-clause-taken g c = let lost = c.in_err-skip_line.ensures.taken in (c.line.line.items ++ lost.0, Consumes-trans _ _ _ c.line.line.items lost.0 c.line.invariant.taken lost.1)

pub returns-clause-taken : goal.returns-clause-taken
returns-clause-taken g c = let lost = c.in_ok-skip_line.ensures.taken in (c.line.line.items ++ lost.0, Consumes-trans _ _ _ c.line.line.items lost.0 c.line.invariant.taken lost.1)
