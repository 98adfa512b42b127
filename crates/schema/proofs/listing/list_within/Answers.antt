use Rattle.std.proofs.Common.{[], length, ap, sym, ◌∙◌, subst}
use Rattle.std.specs.Prelude.{◌++◌, map, All}
use Rattle.std.proofs.lemmas.List.Elements.{All-nil}
use Rattle.std.proofs.lemmas.Result.{err_from_is_err_and}
use Rattle.jtree.specs.Data.{object}
use Rattle.schema.specs.Internal.PlaceView.{subschema_of}
use Rattle.schema.specs.Internal.Subschemas.{IsSubschema}
use Rattle.schema.specs.Internal.Events.{schema_events, subschemas_of, limit_break}
use Rattle.schema.specs.Internal.Faults.{IsLimitRefusal}
use Rattle.schema.proofs.listing.list_within.Goals as goal

pub returns-clause-ok : goal.returns-clause-ok
returns-clause-ok c = ap (λ vs. limit_break c.args.limits (length vs) (schema_events [] c.args.schema.now)) (sym c.new-subschemas.ensures.items) ∙ c.in_ok-list_schema.ensures.grown.limit

pub returns-in_err-list_schema-clause-err : goal.returns-in_err-list_schema-clause-err
returns-in_err-list_schema-clause-err c =
    let events = schema_events [] c.args.schema.now in
    let e = c.in_err-list_schema.field-0.0 in
    let p = err_from_is_err_and c.from_residual.result c.from_residual.ensures.1 in
    rw (p.1, p.2) (subst (λ vs. IsLimitRefusal (limit_break c.args.limits (length vs) events) e) c.new-subschemas.ensures.items c.in_err-list_schema.ensures.refused)

pub returns-clause-subschemas : goal.returns-clause-subschemas
returns-clause-subschemas c =
    let ms = c.args.schema.now in
    let none = c.new-subschemas.ensures.items in
    record {
      each = c.in_ok-list_schema.ensures.right (object ms) c.root_context.ensures (subst (All (IsSubschema (object ms))) (sym none) (All-nil (IsSubschema (object ms))));
      whole = c.in_ok-list_schema.ensures.grown.subschemas ∙ ap (λ vs. map subschema_of vs ++ subschemas_of (schema_events [] ms)) none;
    }
