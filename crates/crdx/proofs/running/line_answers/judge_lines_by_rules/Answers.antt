use Rattle.std.proofs.Common.{refl, inl, subst, sym}
use Rattle.std.proofs.KnownBytes.{Keeps-refl}
use Rattle.schema.specs.Nodes.View.{node_of}
use Rattle.crdx.specs.Program.Documents.{file_name}
use Rattle.crdx.specs.Program.Requested.{IsRequestedRoot}
use Rattle.crdx.specs.Program.RunResult.{effects, no_objects}
use Rattle.crdx.specs.Program.Standard.{by_node}
use Rattle.crdx.specs.declared.arguments.request.Request.TheVariants.{ObjectLines}
use Rattle.crdx.proofs.RunLemmas.{input_of_schema, requested_root}
use Rattle.crdx.proofs.LineAnswerLemmas.{lines_end}
use Rattle.crdx.proofs.running.line_answers.judge_lines_by_rules.Goals as goal

pub returns-in-Err : goal.returns-in-Err
returns-in-Err g c =
    let arguments = c.args.arguments.now in
    let has = g.I.Inputs.has c.args.inputs.now in
    record {
      answered = tt;
      unfailed = tt;
      cause = inl (
        input_of_schema has (g.I.Inputs.failures c.args.inputs.now) (g.I.Inputs.failures c.accepted_schema.new.inputs) arguments.common (ObjectLines arguments)
            (λ breaks are. no_objects arguments breaks c.requires are) c.in-Err.refusal.cause (λ r. r) c.in-Err.ensures.cause,
        record { kept = Keeps-refl (g.W.Sink.taken c.args.out.now); unfailed = refl },
      );
    }

pub returns : goal.returns
returns g c =
    let arguments = c.args.arguments.now in
    let has = g.I.Inputs.has c.args.inputs.now in
    let accepted = c.in-Ok.accepted in
    let node = subst (IsRequestedRoot has arguments.common) (sym c.root.ensures.node) (requested_root has arguments.common accepted.group accepted.kind accepted.schema c.in-Ok.ensures.accepted) in
    lines_end (effects g.I.Inputs.has g.I.Inputs.lines g.I.Inputs.failures g.W.Sink.taken g.W.Sink.failures c.args.inputs.now c.judge_lines_by.new.inputs c.args.out.now c.judge_lines_by.new.out) arguments (by_node (node_of c.root.result.now))
    (c.requires, node) (g.I.Inputs.lines c.accepted_schema.new.inputs (file_name arguments.object)) (c.in-Ok.ensures.lines (file_name arguments.object)) _ c.in-Ok.ensures.unfailed c.judge_lines_by.result
    c.judge_lines_by.ensures.answered c.judge_lines_by.ensures.unfailed c.judge_lines_by.ensures.cause
