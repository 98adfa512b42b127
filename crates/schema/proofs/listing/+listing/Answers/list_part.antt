use Rattle.std.proofs.Common.{◌≡◌, [], ◌∷◌, ◌++◌, ap, sym, ◌∙◌, subst}
use Rattle.std.specs.Prelude.{option_and_then}
use Rattle.std.proofs.lemmas.Result.{on_ok_weaker}
use Rattle.jtree.specs.Data.{object}
use Rattle.schema.specs.Internal.Contexts.{IsContext}
use Rattle.schema.specs.Document.Places.{only_object}
use Rattle.schema.specs.Internal.PlaceView.{step_of, place_of}
use Rattle.schema.proofs.listing.+listing.Goals as goal

pub returns-in_ok-place-in-Schema-Object : goal.list_part-returns-in_ok-place-in-Schema-Object
returns-in_ok-place-in-Schema-Object t c =
    let P = place_of c.args.position.now.place.now in
    let step = step_of c.in-Schema-Object.step in
    let r = c.list_schema.result in
    let e = c.list_schema.ensures in
    let place : place_of c.as_slice.result.now ≡ P ++ (step ∷ []) = ap place_of c.as_slice.ensures.value ∙ c.in_ok-place-in-Schema-Object.ensures in
    rw (c.in-Schema-Object.is-0, c.in-Schema-Object.is-1, ← place) record {
      grown = e.grown;
      refused = e.refused;
      right = on_ok_weaker r (λ each raw h. each raw (subst (λ p. IsContext raw p (object c.in-Schema-Object.members) c.context_below.result) (sym place) (c.context_below.ensures raw h.0 P h.1 (ap (option_and_then only_object) h.2)))) e.right;
    }
