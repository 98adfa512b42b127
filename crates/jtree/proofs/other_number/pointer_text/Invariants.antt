use Rattle.std.proofs.Common.{◌≡◌, take, string_bytes}
use Rattle.jtree.specs.Pointer.{pointer}
use Rattle.jtree.specs.Internal.Steps.{path_of}
use Rattle.jtree.proofs.other_number.pointer_text.Given as goal

abbrev pub invariant-loop-step : goal.invariant-loop-step
invariant-loop-step l = string_bytes l.text ≡ pointer (path_of (take l.step-index l.path))
