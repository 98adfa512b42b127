use Rattle.std.proofs.Common.{length, sym, subst}
use Rattle.std.specs.Io.KnownBytes.{Appends}
use Rattle.std.proofs.KnownBytes.{Appends-kept}
use Rattle.std.proofs.Math.Seq.{take-length}
use Rattle.crdx.proofs.running.line_answers.write_text.Goals as goal

pub returns-in-Err-flush-clause-part : goal.returns-in-Err-flush-clause-part
returns-in-Err-flush-clause-part g c =
    let text = c.args.text.now in
    let out = Appends-kept _ _ _ _ c.in-Ok.ensures.ok c.flush.ensures.keeps in
    (length text, subst (Appends (g.W.Sink.taken c.args.out.now) (g.W.Sink.taken c.flush.new.self)) (sym (take-length text)) out)
