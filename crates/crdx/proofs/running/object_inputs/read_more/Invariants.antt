use Rattle.std.proofs.Common.{◌≡◌, ◌-◌, ◌^◌}
use Rattle.crdx.specs.Internal.ObjectInputs.{AddsSoFar}
use Rattle.crdx.specs.Program.Documents.{AreLinesAmong}
use Rattle.crdx.specs.Program.Profiles.{numbers_by}
use Rattle.crdx.proofs.running.object_inputs.read_more.Given as goal

abbrev pub invariant-lines : goal.invariant-lines
invariant-lines g l = record {
  so_far : AddsSoFar (numbers_by l.fn.profile) (g.I.Inputs.coming l.fn.inputs) (g.I.Inputs.coming l.inputs) l.read l.fn.objects.items l.objects.items;
  lines : AreLinesAmong (g.I.Inputs.lines l.inputs) (g.I.Inputs.lines l.fn.inputs);
  reads : g.I.Inputs.failures l.inputs ≡ g.I.Inputs.failures l.fn.inputs;
}

abbrev pub decreases-lines : goal.decreases-lines
decreases-lines g l = 2 ^ 64 - 1 - l.read
