use Rattle.std.proofs.Common.{◌≡◌, drop}
use Rattle.schema.specs.Document.Places.{core}
use Rattle.schema.specs.Internal.PlaceView.{place_of}
use Rattle.schema.specs.Rules.Profile.{is_root}
use Rattle.schema.proofs.rules.junctors.is_in_root.Given as goal

-- the steps that are left have the core of all
abbrev pub invariant-loop-step : goal.invariant-loop-step
invariant-loop-step l = is_root (core (place_of (drop l.step-index l.place))) ≡ is_root (core (place_of l.place))
