use Rattle.std.proofs.Common.{◌∙◌, take, arith}
use Rattle.jtree.proofs.LineLemmas.{lost_piece, where_err}
use Rattle.jtree.proofs.lines.LineFeed.read_ahead.Goals as goal

pub returns-in_err-extend_from_slice-clause-taken : goal.returns-in_err-extend_from_slice-clause-taken
returns-in_err-extend_from_slice-clause-taken g c = where_err c.from_residual-in_err-extend_from_slice.result _ (λ e.
    let read = take c.in_ok-n.n c.get.new.buffer in (
      read,
      lost_piece (g.T.Source.remaining c.args.self.now.source) (g.T.Source.remaining c.get.new.self) c.args.self.now.at c.args.self.now.piece.items read c.extend_from_slice.new.self.items
          (omega (arith, c.if-self-len.false, c.len.ensures)) (c.in_err-extend_from_slice.ensures.items ∙ c.clear.ensures.items) c.in_ok-n.ensures.gives.0,
    ))
