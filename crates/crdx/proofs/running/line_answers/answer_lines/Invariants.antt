use Rattle.std.proofs.Common.{◌≡◌, ◌-◌, ◌^◌}
use Rattle.crdx.specs.Internal.Judge.{standard_of}
use Rattle.crdx.specs.Internal.LineProgress.{IsAnsweredSoFar}
use Rattle.crdx.specs.Program.Profiles.{numbers_by}
use Rattle.crdx.proofs.running.line_answers.answer_lines.Given as goal

abbrev pub invariant-lines : goal.invariant-lines
invariant-lines g l = record {
  so_far : IsAnsweredSoFar (g.I.Inputs.coming l.fn.inputs) (g.I.Inputs.coming l.inputs) (numbers_by l.asked.profile) (standard_of l.fn.judge) l.asked.command l.so_far.lines l.so_far.status (g.W.Sink.taken l.fn.out) (g.W.Sink.taken l.out);
  judge : standard_of l.judge ≡ standard_of l.fn.judge;
  failures : g.W.Sink.failures l.out ≡ g.W.Sink.failures l.fn.out;
  reads : g.I.Inputs.failures l.inputs ≡ g.I.Inputs.failures l.fn.inputs;
}

abbrev pub decreases-lines : goal.decreases-lines
decreases-lines g l = 2 ^ 64 - 1 - l.so_far.lines
