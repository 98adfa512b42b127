use Rattle.std.proofs.Common.{◌≡◌, drop}
use Rattle.formats.specs.Formats.{matches_any}
use Rattle.formats.specs.View.{texts_at}
use Rattle.formats.proofs.testing.matches_any.Given as goal

abbrev pub invariant-loop-expression : goal.invariant-loop-expression
invariant-loop-expression g l = matches_any g.T.TextTests.matches (texts_at (drop l.expression-index l.expressions)) l.text ≡ matches_any g.T.TextTests.matches (texts_at l.expressions) l.text
