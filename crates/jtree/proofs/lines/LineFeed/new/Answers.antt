use Rattle.std.proofs.KnownBytes.{prepend_known-nil}
use Rattle.jtree.proofs.lines.LineFeed.new.Goals as goal

pub returns-clause-remaining : goal.returns-clause-remaining
returns-clause-remaining g c = rw c.new.ensures.items (prepend_known-nil (g.T.Source.remaining c.args.source))
