use Rattle.std.proofs.Common.{◌≡◌, take, map}
use Rattle.jtree.specs.View.{data_of}
use Rattle.crdx.specs.Program.Documents.{AreLinesAmong}
use Rattle.crdx.specs.Program.Objects.{AreObjects}
use Rattle.crdx.specs.Program.Profiles.{numbers_by}
use Rattle.crdx.proofs.running.object_inputs.read_objects.Given as goal

abbrev pub invariant-loop-word : goal.invariant-loop-word
invariant-loop-word g l = record {
  objects : AreObjects (numbers_by l.fn.profile) (g.I.Inputs.lines l.fn.inputs) (map (λ w. w.now) (take l.word-index l.words)) (map data_of l.objects.items);
  lines : AreLinesAmong (g.I.Inputs.lines l.inputs) (g.I.Inputs.lines l.fn.inputs);
  reads : g.I.Inputs.failures l.inputs ≡ g.I.Inputs.failures l.fn.inputs;
}
