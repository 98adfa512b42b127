use Rattle.std.proofs.Common.{◌≡◌, true, false, length, refl, arith}
use Rattle.std.specs.Prelude.{nat_lt, nat_le}
use Rattle.std.proofs.lemmas.Bool.Decides.{nat_tests}
use Rattle.std.proofs.lemmas.List.{length-map}
use Rattle.schema.specs.Document.Places.{place_path}
use Rattle.schema.specs.Internal.PlaceView.{place_of, step_of}
use Rattle.schema.specs.declared.limits.Limited.TheVariants.{Places, Steps}
use Rattle.schema.proofs.listing.check_place.Goals as goal

pub returns-then-count-limits-clause-err : goal.returns-then-count-limits-clause-err
returns-then-count-limits-clause-err c = λ s events.
    let full : nat_le c.args.limits.places c.args.count ≡ true = grind (arith, nat_tests) in
    (record { path = place_path (place_of c.args.place.now); limited = Places; found = c.args.count }, c.in_ok-pointer_of.ensures, (refl, refl), rw full refl)

pub returns-then-place-limits-clause-err : goal.returns-then-place-limits-clause-err
returns-then-place-limits-clause-err c = λ s events.
    let p = place_of c.args.place.now in
    let room : nat_le c.args.limits.places c.args.count ≡ false = grind (arith, nat_tests) in
    let steps : length p ≡ length c.args.place.now = length-map c.args.place.now step_of in
    let deep : nat_lt c.args.limits.steps (length p) ≡ true = grind (arith, nat_tests, steps) in
    (record { path = place_path p; limited = Steps; found = length p }, c.in_ok-pointer_of-2.ensures, (refl, omega (arith, steps)), rw (room, deep) refl)
