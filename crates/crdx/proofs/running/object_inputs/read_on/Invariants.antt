use Rattle.std.proofs.Common.{◌≡◌, ◌+◌, ◌-◌, length}
use Rattle.jtree.specs.Reads.{most_bytes}
use Rattle.crdx.specs.Internal.ObjectInputs.{IsTextSoFar}
use Rattle.crdx.specs.Program.Documents.{AreLinesAmong}
use Rattle.crdx.proofs.running.object_inputs.read_on.Given as goal

abbrev pub invariant-lines : goal.invariant-lines
invariant-lines g l = record {
  so_far : IsTextSoFar (g.I.Inputs.coming l.fn.inputs) (g.I.Inputs.coming l.inputs) l.fn.first.items l.text.items;
  objects : l.objects.items ≡ l.fn.objects.items;
  lines : AreLinesAmong (g.I.Inputs.lines l.inputs) (g.I.Inputs.lines l.fn.inputs);
  reads : g.I.Inputs.failures l.inputs ≡ g.I.Inputs.failures l.fn.inputs;
}

abbrev pub decreases-lines : goal.decreases-lines
decreases-lines g l = most_bytes + 1 - length l.text.items
