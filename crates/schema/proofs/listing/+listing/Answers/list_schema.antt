use Rattle.std.proofs.Common.{◌≡◌, suc, [], ◌∷◌, ◌++◌, IfErr, length, true, refl, ap, sym, ◌∙◌, subst, add-one, arith}
use Rattle.std.specs.Prelude.{map, All}
use Rattle.std.proofs.lemmas.List.Elements.{All-append, All-cons, All-nil}
use Rattle.std.proofs.lemmas.List.{length-append}
use Rattle.std.proofs.lemmas.Result.{err_from_is_err_and, on_ok_weaker}
use Rattle.jtree.specs.Data.{object}
use Rattle.schema.specs.Internal.Subschemas.{IsSubschema}
use Rattle.schema.specs.Internal.Events.{entered, member_events, schema_events, subschemas_of, limit_break}
use Rattle.schema.specs.Internal.PlaceView.{place_of, subschema_of}
use Rattle.schema.specs.Internal.Faults.{IsLimitRefusal}
use Rattle.schema.proofs.ListingLemmas.{one_more}
use Rattle.schema.proofs.ContextLemmas.{context_subschema}
use Rattle.schema.proofs.listing.+listing.Goals as goal

pub returns-in_err-check_place : goal.list_schema-returns-in_err-check_place
returns-in_err-check_place t c =
    let P = place_of c.args.position.now.place.now in
    let ms = c.args.members.now in
    let same : c.len.result ≡ length c.args.subschemas.now.items = omega arith in
    let p = err_from_is_err_and c.from_residual.result c.from_residual.ensures.1 in
    rw (p.1, p.2) record { grown = tt; refused = subst (λ n. IsLimitRefusal (limit_break c.args.position.now.limits n (schema_events P ms)) c.in_err-check_place.field-0.0) same (c.in_err-check_place.ensures.err (object ms) (member_events P true ms)); right = tt }

pub returns : goal.list_schema-returns
returns t c =
    let P = place_of c.args.position.now.place.now in
    let ms = c.args.members.now in
    let events = member_events P true ms in
    let old = c.args.subschemas.now.items in
    let r = c.list_keywords.result in
    let e = c.list_keywords.ensures in
    let place : place_of c.in_ok-copied.field-0.items ≡ P = c.in_ok-copied.ensures in
    let items = c.in_ok-push.ensures.items in
    let same : c.len.result ≡ length old = omega arith in
    let count : suc c.len.result ≡ length c.push.new.self.items = sym (ap length items ∙ length-append old _ ∙ add-one (length old) ∙ ap suc (sym same)) in
    let along : limit_break c.args.position.now.limits (length c.push.new.self.items) events ≡ limit_break c.args.position.now.limits (length old) (schema_events P ms) =
    ap (λ n. limit_break c.args.position.now.limits n events) (sym count) ∙ sym (c.in_ok-check_place.ensures.ok (object ms) events) ∙ ap (λ n. limit_break c.args.position.now.limits n (schema_events P ms)) same in
    record {
      grown = on_ok_weaker r (λ g. record {
        subschemas = g.subschemas ∙ one_more old _ _ events items ∙ ap (λ p. map subschema_of old ++ (entered p (object ms) ∷ subschemas_of events)) place;
        limit = sym along ∙ g.limit;
      }) e.grown;
      refused = subst (λ o. IfErr r (IsLimitRefusal o)) along e.refused;
      right = on_ok_weaker r
          (λ each raw h all. each raw h (subst (All (IsSubschema raw)) (sym items) (All-append (IsSubschema raw) old _ all (All-cons (IsSubschema raw) _ [] (context_subschema raw P c.args.position.now.context _ place refl refl h) (All-nil (IsSubschema raw))))))
          e.right;
    }
