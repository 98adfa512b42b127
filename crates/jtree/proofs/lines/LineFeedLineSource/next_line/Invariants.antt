use Rattle.std.proofs.Common.{◌≡◌, ◌-◌, ◌+◌, length}
use Rattle.std.specs.Io.KnownBytes.{Consumes}
use Rattle.jtree.specs.Internal.LineParts.{left}
use Rattle.jtree.specs.Reads.{most_bytes}
use Rattle.jtree.proofs.LineLemmas.{NoNewline}
use Rattle.jtree.proofs.lines.LineFeedLineSource.next_line.Given as goal

abbrev pub invariant-line : goal.invariant-line
invariant-line g l = record {
  taken : Consumes (left l.fn.self.at l.fn.self.piece.items (g.T.Source.remaining l.fn.self.source)) (left l.self.at l.self.piece.items (g.T.Source.remaining l.self.source)) l.line.items;
  one : NoNewline l.line.items;
  failures : g.T.Source.failures l.self.source ≡ g.T.Source.failures l.fn.self.source;
}

abbrev pub decreases-line : goal.decreases-line
decreases-line g l = most_bytes + 1 - length l.line.items
