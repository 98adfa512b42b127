use Rattle.std.proofs.Common.{ap, subst, sym, ◌∙◌}
use Rattle.std.specs.Prelude.{option_map}
use Rattle.jtree.specs.View.{data_of}
use Rattle.jtree.specs.Internal.Lookups.{same_name}
use Rattle.schema.specs.Nodes.View.{node_of, fields_of}
use Rattle.plan.specs.Internal.Renewed.{IsFieldAt}
use Rattle.plan.proofs.RenewLemmas.{placed_field}
use Rattle.plan.proofs.renewing.field_place.Goals as goal

pub returns-then-eq-clause-some : goal.returns-then-eq-clause-some
returns-then-eq-clause-some c =
    let f = c.field-item.result in
    subst (IsFieldAt c.loop-at.at c.args.name.now (node_of f.node) f.required (option_map data_of f.default)) (ap fields_of c.deref-field-items.ensures.value ∙ c.fields.view_is)
    (placed_field c.args.name.now c.deref-field-items.result.now c.loop-at.at f c.loop-at-test.true c.field-item.is (sym (same_name c.args.name.now f.name (sym c.eq.ensures ∙ c.if-eq.true))))
