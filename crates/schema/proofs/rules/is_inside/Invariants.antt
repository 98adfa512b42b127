use Rattle.std.proofs.Common.{◌≡◌, drop}
use Rattle.schema.specs.Document.Places.{is_inside}
use Rattle.schema.specs.Internal.PlaceView.{place_of}
use Rattle.schema.proofs.rules.is_inside.Given as goal

-- the place is inside exactly where what is left of it is
abbrev pub invariant-loop-step : goal.invariant-loop-step
invariant-loop-step l = is_inside (place_of (drop l.step-index l.place)) ≡ is_inside (place_of l.place)
