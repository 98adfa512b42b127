use Rattle.std.proofs.Common.{[], subst}
use Rattle.jtree.specs.Data.{object}
use Rattle.schema.specs.Internal.Events.{schema_events, limit_break}
use Rattle.schema.specs.Internal.Faults.{IsLimitRefusal}
use Rattle.schema.specs.declared.listing.Unlisted.TheVariants.{Passed}
use Rattle.schema.proofs.EventLemmas.{schema_events_are}
use Rattle.schema.proofs.LimitLemmas.{within}
use Rattle.schema.proofs.ListingLemmas.{refusal_names}
use Rattle.schema.proofs.listing.list_places.Goals as goal

pub returns-in-Ok-clause-within : goal.returns-in-Ok-clause-within
returns-in-Ok-clause-within c =
    let ms = c.args.schema.now in
    within c.args.limits (object ms) (schema_events [] ms) (schema_events_are ms c.reveal_invariant.ensures) c.in-Ok.ensures.ok

pub returns-in-Err-Passed-clause-err : goal.returns-in-Err-Passed-clause-err
returns-in-Err-Passed-clause-err c =
    let ms = c.args.schema.now in
    let o = limit_break c.args.limits 0 (schema_events [] ms) in
    let refused = subst (IsLimitRefusal o) c.in-Err-Passed.field-0-is c.in-Err-Passed.ensures.err in
    let p = refused.0 in
    refusal_names c.args.limits ms (schema_events_are ms c.reveal_invariant.ensures) p c.with_all_places.result refused.3 (c.with_all_places.ensures p (subst (λ q. IsLimitRefusal q (Passed c.in-Err-Passed.excess)) refused.3 refused))
