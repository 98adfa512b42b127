use Rattle.std.proofs.Common.{Some}
use Rattle.jtree.specs.Internal.LineParts.{left}
use Rattle.crdx_tests.proofs.FakeLemmas.{long_line}
use Rattle.crdx_tests.proofs.support.fakes.next_of.Goals as goal

pub returns-clause-too_long : goal.returns-clause-too_long
returns-clause-too_long c =
    let feed = c.args.feed.now in
    let after = c.next_line.new.self in
    λ is. long_line (left feed.at feed.piece.items (Some feed.source.bytes.now)) (left after.at after.piece.items (Some after.source.bytes.now)) (c.next_line.ensures.too_long is)
