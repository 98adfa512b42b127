use Rattle.std.proofs.Common.{◌≡◌, [], sym, ap, subst, ◌∙◌, inl, inr, false, take, All, arith}
use Rattle.std.proofs.lemmas.List.{take_all}
use Rattle.std.proofs.lemmas.List.Elements.{All-more}
use Rattle.std.proofs.lemmas.Result.{IfOk-weaker}
use Rattle.schema.specs.Nodes.Node.{node}
use Rattle.schema.specs.Nodes.View.{node_of, sort_of, validations_of, fields_of}
use Rattle.explain.specs.Paths.FieldPath.{field, item, value}
use Rattle.explain.specs.Paths.StepView.{step_of}
use Rattle.plan.specs.Samples.Site.{below}
use Rattle.cover.specs.Internal.Ways.{LeadsNowhere, NoneLeads}
use Rattle.cover.proofs.WayLemmas.{some_text, after_text, in_object, in_map, in_list, in_scalar, in_open, none_lead}
use Rattle.cover.proofs.way.+find.Goals as goal

pub find-returns-in-Object-clause-nowhere : goal.find-returns-in-Object-clause-nowhere
find-returns-in-Object-clause-nowhere t c =
    let n = c.args.node.now in
    let o = c.in-Object.object in
    let more = some_text c.args.text.now (sym c.is_empty.ensures ∙ c.if-is_empty.false) in
    IfOk-weaker c.find_field.result (λ found. found ≡ false → NoneLeads [] o.fields c.args.text.now) (λ found. found ≡ false → LeadsNowhere [] (node_of n) c.args.text.now)
    (λ found h e. subst (λ s. LeadsNowhere [] (node n.nullable n.description (sort_of s)) c.args.text.now) (sym c.in-Object.is)
    (in_object [] c.args.text.now n.nullable n.description o.fields o.preserves o.map_type o.bounds (validations_of o.junctors) more (h e)))
    c.find_field.ensures.nowhere

pub find-returns-in-Map-clause-nowhere : goal.find-returns-in-Map-clause-nowhere
find-returns-in-Map-clause-nowhere t c =
    let n = c.args.node.now in
    let m = c.in-Map.map in
    let more = some_text c.args.text.now (sym c.is_empty.ensures ∙ c.if-is_empty.false) in
    let same : node_of c.deref.result.now ≡ m.value = cc in
    IfOk-weaker c.find_below.result (λ found. found ≡ false → LeadsNowhere (below [] value) (node_of c.deref.result.now) c.args.text.now) (λ found. found ≡ false → LeadsNowhere [] (node_of n) c.args.text.now)
    (λ found h e. subst (λ s. LeadsNowhere [] (node n.nullable n.description (sort_of s)) c.args.text.now) (sym c.in-Map.is)
    (in_map [] c.args.text.now n.nullable n.description m.value m.map_type m.bounds more
    (subst (λ N. LeadsNowhere (below [] value) N c.args.text.now) same (h e))))
    c.find_below.ensures.nowhere

pub find-returns-in-List-clause-nowhere : goal.find-returns-in-List-clause-nowhere
find-returns-in-List-clause-nowhere t c =
    let n = c.args.node.now in
    let m = c.in-List.list in
    let more = some_text c.args.text.now (sym c.is_empty.ensures ∙ c.if-is_empty.false) in
    let same : node_of c.deref-in-List.result.now ≡ m.item = cc in
    IfOk-weaker c.find_below-in-List.result (λ found. found ≡ false → LeadsNowhere (below [] item) (node_of c.deref-in-List.result.now) c.args.text.now) (λ found. found ≡ false → LeadsNowhere [] (node_of n) c.args.text.now)
    (λ found h e. subst (λ s. LeadsNowhere [] (node n.nullable n.description (sort_of s)) c.args.text.now) (sym c.in-List.is)
    (in_list [] c.args.text.now n.nullable n.description m.item m.list_type m.keys.items m.bounds more
    (subst (λ N. LeadsNowhere (below [] item) N c.args.text.now) same (h e))))
    c.find_below-in-List.ensures.nowhere

pub find-returns-in-Scalar-clause-nowhere : goal.find-returns-in-Scalar-clause-nowhere
find-returns-in-Scalar-clause-nowhere t c = λ e.
    let n = c.args.node.now in
    let more = some_text c.args.text.now (sym c.is_empty.ensures ∙ c.if-is_empty.false) in
    elim c.in-Scalar.is [
      | inl s ↦ subst (λ s. LeadsNowhere [] (node n.nullable n.description (sort_of s)) c.args.text.now) (sym s.1) (in_scalar [] c.args.text.now n.nullable n.description s.0.kind (validations_of s.0.validations) more)
      | inr o ↦ subst (λ s. LeadsNowhere [] (node n.nullable n.description (sort_of s)) c.args.text.now) (sym o) (in_open [] c.args.text.now n.nullable n.description more)
    ]

pub find-returns-in-Scalar-2-clause-nowhere : goal.find-returns-in-Scalar-2-clause-nowhere
find-returns-in-Scalar-2-clause-nowhere t c = λ e.
    let n = c.args.node.now in
    let more = some_text c.args.text.now (sym c.is_empty.ensures ∙ c.if-is_empty.false) in
    elim c.in-Scalar.is [
      | inl s ↦ subst (λ s. LeadsNowhere [] (node n.nullable n.description (sort_of s)) c.args.text.now) (sym s.1) (in_scalar [] c.args.text.now n.nullable n.description s.0.kind (validations_of s.0.validations) more)
      | inr o ↦ subst (λ s. LeadsNowhere [] (node n.nullable n.description (sort_of s)) c.args.text.now) (sym o) (in_open [] c.args.text.now n.nullable n.description more)
    ]

pub find_field-loop-field-preserved : goal.find_field-loop-field-preserved
find_field-loop-field-preserved t c =
    let xs = c.deref-field-items.result.now in
    let i = c.loop-field.field-index in
    let f = c.field-item.result in
    let inv = c.loop-field.invariant in
    let text = c.args.text.now in
    let nowhere = c.in_ok-find_below.ensures.nowhere c.if-branch.false in
    let kept = c.in_ok-find_below.ensures.kept c.if-branch.false in
    record {
      kept = kept ∙ inv.kept;
      none = All-more (λ g. LeadsNowhere (below [] (field g.name)) (node_of g.node) text) xs i f (omega arith) inv.none
          (subst (λ g. LeadsNowhere (below [] (field g.name)) (node_of g.node) text) c.field-item.is
          (subst (λ n. LeadsNowhere (below [] (field n)) (node_of f.node) text) c.as_str.ensures nowhere));
    }

pub find_field-returns-clause-nowhere : goal.find_field-returns-clause-nowhere
find_field-returns-clause-nowhere t c = λ e.
    let xs = c.deref-field-items.result.now in
    let i = c.loop-field.field-index in
    let text = c.args.text.now in
    let all : take i xs ≡ xs = take_all i xs (omega arith) in
    subst (λ fs. NoneLeads [] fs text) (ap fields_of c.deref-field-items.ensures.value ∙ c.fields.view_is)
    (none_lead [] text xs (subst (λ ys. All (λ g. LeadsNowhere (below [] (field g.name)) (node_of g.node) text) ys) all c.loop-field.invariant.none))

pub find_below-returns-clause-nowhere : goal.find_below-returns-clause-nowhere
find_below-returns-clause-nowhere t c = λ e.
    after_text (step_of c.args.step) (node_of c.args.node.now) c.args.text.now c.in-Some.rest.now c.in-Some.ensures (c.in_ok-find.ensures.nowhere c.if-branch.false)
