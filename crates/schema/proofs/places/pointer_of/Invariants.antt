use Rattle.std.proofs.Common.{◌≡◌, take}
use Rattle.std.specs.Prelude.{string_bytes}
use Rattle.jtree.specs.Pointer.{pointer}
use Rattle.schema.specs.Document.Places.{place_path}
use Rattle.schema.specs.Internal.PlaceView.{place_of}
use Rattle.schema.proofs.places.pointer_of.Given as goal

-- the text is the pointer of the steps so far
abbrev pub invariant-loop-step : goal.invariant-loop-step
invariant-loop-step l = string_bytes l.text ≡ pointer (place_path (place_of (take l.step-index l.place)))
