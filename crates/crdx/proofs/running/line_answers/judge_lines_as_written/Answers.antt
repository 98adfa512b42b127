use Rattle.std.proofs.Common.{refl, inl, subst, sym}
use Rattle.std.proofs.KnownBytes.{Keeps-refl}
use Rattle.jtree.specs.View.{data_of}
use Rattle.crdx.specs.Program.Documents.{file_name}
use Rattle.crdx.specs.Program.Requested.{IsRequestedStandard}
use Rattle.crdx.specs.Program.RunResult.{effects, refused_patterns_of_lines}
use Rattle.crdx.specs.Program.Standard.{as_written}
use Rattle.crdx.specs.declared.arguments.request.Request.TheVariants.{ObjectLines}
use Rattle.crdx.proofs.RunLemmas.{input_of_written}
use Rattle.crdx.proofs.LineAnswerLemmas.{lines_end}
use Rattle.crdx.proofs.running.line_answers.judge_lines_as_written.Goals as goal

pub returns-in-Err : goal.returns-in-Err
returns-in-Err g c =
    let arguments = c.args.arguments.now in
    let has = g.I.Inputs.has c.args.inputs.now in
    record {
      answered = tt;
      unfailed = tt;
      cause = inl (
        input_of_written has (g.I.Inputs.failures c.args.inputs.now) (g.I.Inputs.failures c.written_schema.new.inputs) arguments c.requires (ObjectLines arguments)
            (refused_patterns_of_lines arguments) c.in-Err.refusal.cause (λ r. r) c.in-Err.ensures.cause,
        record { kept = Keeps-refl (g.W.Sink.taken c.args.out.now); unfailed = refl },
      );
    }

pub returns-in-Err-new : goal.returns-in-Err-new
returns-in-Err-new g c = record {
  answered = tt;
  unfailed = tt;
  cause = rw c.into.ensures (inl (tt, record { kept = Keeps-refl (g.W.Sink.taken c.args.out.now); unfailed = refl }));
}

pub returns : goal.returns
returns g c =
    let arguments = c.args.arguments.now in
    let has = g.I.Inputs.has c.args.inputs.now in
    let written = c.in-Ok.written in
    let judge = c.in-Ok-new.judge in
    let asked = subst (λ raw. IsRequestedStandard has arguments (as_written raw)) (sym c.in-Ok-new.ensures) (c.requires, c.in-Ok.ensures.written, c.in-Ok.ensures.patterns) in
    lines_end (effects g.I.Inputs.has g.I.Inputs.lines g.I.Inputs.failures g.W.Sink.taken g.W.Sink.failures c.args.inputs.now c.judge_lines_by.new.inputs c.args.out.now c.judge_lines_by.new.out) arguments (as_written (data_of judge.schema.now))
    asked (g.I.Inputs.lines c.written_schema.new.inputs (file_name arguments.object)) (c.in-Ok.ensures.lines (file_name arguments.object)) _ c.in-Ok.ensures.unfailed c.judge_lines_by.result
    c.judge_lines_by.ensures.answered c.judge_lines_by.ensures.unfailed c.judge_lines_by.ensures.cause
