use Rattle.std.proofs.Common.{◌≡◌, ◌++◌, drop, true}
use Rattle.std.specs.Prelude.{string_bytes}
use Rattle.crdx.specs.Program.LineAnswers.{with_front}
use Rattle.crdx.proofs.running.line_answers.with_number.Given as goal

abbrev pub invariant-loop-byte : goal.invariant-loop-byte
invariant-loop-byte l = l.lines.items ++ with_front (string_bytes l.front) l.at_start (drop l.byte-index l.text) ≡ with_front (string_bytes l.front) true l.text
