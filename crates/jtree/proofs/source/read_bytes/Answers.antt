use Rattle.std.proofs.Common.{arith, rules}
use Rattle.jtree.proofs.Sources.{one_piece_more}
use Rattle.jtree.proofs.source.read_bytes.Goals as goal

pub returns-in_err-extend_from_slice-clause-taken : goal.returns-in_err-extend_from_slice-clause-taken
returns-in_err-extend_from_slice-clause-taken g c =
    one_piece_more _ _ _ c.read.bytes.items c.get_at_most.new.buffer c.in_ok-n.n c.read.invariant.taken c.in_ok-n.ensures.gives.0 c.read.invariant.short (search rules)

pub returns-clause-end : goal.returns-clause-end
returns-clause-end g c = λ few. absurd (omega (arith, c.read-test.false, c.len.ensures, few))
