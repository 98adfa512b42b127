use Rattle.std.proofs.Common.{◌≡◌, take, drop}
use Rattle.cel_read.specs.Internal.Runs.{is_of_class, run}
use Rattle.cel_read.proofs.RunLemmas.{with_front}
use Rattle.cel_read.proofs.runs.run.Given as goal

abbrev pub invariant-loop-i : goal.invariant-loop-i
invariant-loop-i l = with_front (take l.i l.text) (run (is_of_class l.class) (drop l.i l.text)) ≡ run (is_of_class l.class) l.text
