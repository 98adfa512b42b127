use Rattle.std.proofs.Common.{◌≡◌}
use Rattle.jtree.specs.Internal.LineParts.{left}
use Rattle.jtree.proofs.LineLemmas.{HasSkipped}
use Rattle.jtree.proofs.lines.LineFeed.skip_line.Given as goal

abbrev pub invariant-loop-piece : goal.invariant-loop-piece
invariant-loop-piece g l = record {
  skipped : HasSkipped (left l.fn.self.at l.fn.self.piece.items (g.T.Source.remaining l.fn.self.source)) (left l.self.at l.self.piece.items (g.T.Source.remaining l.self.source));
  failures : g.T.Source.failures l.self.source ≡ g.T.Source.failures l.fn.self.source;
}
