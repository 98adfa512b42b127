use Rattle.std.proofs.Common.{◌≡◌, option_map, sym, subst, ap, ◌∙◌, inl, inr}
use Rattle.std.specs.Prelude.{codes}
use Rattle.std.proofs.lemmas.List.{append_cancel_left}
use Rattle.schema.specs.Nodes.Node.{node}
use Rattle.schema.specs.Nodes.View.{node_of, sort_of, fields_of, validations_of}
use Rattle.explain.specs.Internal.Resolving.{IsNodeAfter, IsNodeBelow, field_below}
use Rattle.explain.proofs.ResolvingLemmas.{empty_text, some_text, at_root, in_object, in_map, in_list, in_scalar, in_open, field_passed, field_found}
use Rattle.explain.proofs.resolving.+resolve.Goals as goal

pub node_after-returns : goal.node_after-returns
node_after-returns t c =
    let step = c.args.step.now in (
      λ rest is p e. c.node_at.ensures p (e ∙ append_cancel_left step rest c.in_ok-after.field-0.now (sym is ∙ c.in_ok-after.ensures)),
      λ none. absurd (none c.in_ok-after.field-0.now c.in_ok-after.ensures),
    )

pub node_at-returns-then-is_empty : goal.node_at-returns-then-is_empty
node_at-returns-then-is_empty t c = at_root (node_of c.args.node.now) c.args.text.now (empty_text c.args.text.now (sym c.is_empty.ensures ∙ c.if-is_empty.true))

pub node_at-returns-in-Object : goal.node_at-returns-in-Object
node_at-returns-in-Object t c =
    let n = c.args.node.now in
    let o = c.in-Object.object in
    in_object (node_of n) n.nullable n.description o.fields o.preserves o.map_type o.bounds (validations_of o.junctors) (ap (λ s. node n.nullable n.description (sort_of s)) c.in-Object.is) c.args.text.now
    (option_map (λ m. node_of m.now) c.node_in.result) (some_text c.args.text.now (sym c.is_empty.ensures ∙ c.if-is_empty.false)) c.node_in.ensures

pub node_at-returns-in-Map : goal.node_at-returns-in-Map
node_at-returns-in-Map t c =
    let n = c.args.node.now in
    let m = c.in-Map.map in
    let found = option_map (λ m. node_of m.now) c.node_after.result in
    let same : node_of c.deref.result.now ≡ m.value = cc in
    in_map (node_of n) m.value n.nullable n.description m.map_type m.bounds (ap (λ s. node n.nullable n.description (sort_of s)) c.in-Map.is) c.args.text.now
    found (some_text c.args.text.now (sym c.is_empty.ensures ∙ c.if-is_empty.false)) (subst (λ M. IsNodeAfter (codes "/{}") M c.args.text.now found) same c.node_after.ensures)

pub node_at-returns-in-List : goal.node_at-returns-in-List
node_at-returns-in-List t c =
    let n = c.args.node.now in
    let m = c.in-List.list in
    let found = option_map (λ m. node_of m.now) c.node_after-in-List.result in
    let same : node_of c.deref-in-List.result.now ≡ m.item = cc in
    in_list (node_of n) m.item n.nullable n.description m.list_type m.keys.items m.bounds (ap (λ s. node n.nullable n.description (sort_of s)) c.in-List.is) c.args.text.now
    found (some_text c.args.text.now (sym c.is_empty.ensures ∙ c.if-is_empty.false)) (subst (λ M. IsNodeAfter (codes "/[]") M c.args.text.now found) same c.node_after-in-List.ensures)

pub node_at-returns-in-Scalar : goal.node_at-returns-in-Scalar
node_at-returns-in-Scalar t c =
    let n = c.args.node.now in
    let more = some_text c.args.text.now (sym c.is_empty.ensures ∙ c.if-is_empty.false) in
    elim c.in-Scalar.is [
      | inl s ↦ in_scalar (node_of n) n.nullable n.description s.0.kind (validations_of s.0.validations) (ap (λ s. node n.nullable n.description (sort_of s)) s.1) c.args.text.now more
      | inr o ↦ in_open (node_of n) n.nullable n.description (ap (λ s. node n.nullable n.description (sort_of s)) o) c.args.text.now more
    ]

pub node_in-returns-in-Some : goal.node_in-returns-in-Some
node_in-returns-in-Some t c =
    let xs = c.deref-field-items.result.now in
    let f = c.field-item.result in
    let i = c.loop-field.field-index in
    let found = option_map (λ m. node_of m.now) c.node_at.result in
    let named : c.as_bytes.result.now ≡ f.name = c.as_bytes.ensures.value ∙ c.as_str.ensures in
    let below = field_found xs i f c.args.text.now c.as_bytes.result.now c.in-Some.rest.now found c.loop-field-test.true c.field-item.is named c.loop-field.invariant c.in-Some.ensures c.node_at.ensures in
    let same : fields_of xs ≡ c.args.fields.now = ap fields_of c.deref-field-items.ensures.value ∙ c.fields.view_is in
    subst (λ fs. IsNodeBelow (field_below fs) c.args.text.now found) same below

pub node_in-loop-field-preserved : goal.node_in-loop-field-preserved
node_in-loop-field-preserved t c =
    let xs = c.deref-field-items.result.now in
    let f = c.field-item.result in
    let named : c.as_bytes.result.now ≡ f.name = c.as_bytes.ensures.value ∙ c.as_str.ensures in
    field_passed xs c.loop-field.field-index f c.args.text.now c.as_bytes.result.now c.loop-field-test.true c.field-item.is named c.loop-field.invariant (λ rest. c.in_default.ensures rest)
