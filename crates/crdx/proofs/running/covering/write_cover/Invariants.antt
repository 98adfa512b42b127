use Rattle.std.proofs.Common.{◌≡◌, ◌-◌, length}
use Rattle.std.specs.Io.KnownBytes.{Appends}
use Rattle.std.specs.Option.{option_copied}
use Rattle.cover.specs.Cover.{objects_of}
use Rattle.cover.specs.Covering.{IsCoverOfFirst}
use Rattle.crdx.specs.Output.Line.{lines}
use Rattle.crdx.proofs.running.covering.write_cover.Given as goal

abbrev pub invariant-path : goal.invariant-path
invariant-path g l = record {
  question : l.covering.question ≡ l.fn.plan;
  values : l.covering.values ≡ l.fn.values;
  cover : IsCoverOfFirst l.covering;
  written : l.written ≡ length l.covering.covered.lines;
  out : Appends (g.W.Sink.taken l.initial.out) (g.W.Sink.taken l.out) (lines (option_copied l.envelope) (objects_of l.covering.covered));
  unfailed : g.W.Sink.failures l.out ≡ g.W.Sink.failures l.initial.out;
}

abbrev pub decreases-path : goal.decreases-path
decreases-path g l = length l.covering.fields - l.covering.count
