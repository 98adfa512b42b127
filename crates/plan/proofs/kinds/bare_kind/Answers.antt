use Rattle.std.proofs.Common.{◌≡◌, ◌↔◌, false, refl, ap, sym, subst, ◌∙◌}
use Rattle.schema.specs.Nodes.Node.{Node, node, scalar}
use Rattle.schema.specs.Nodes.View.{sort_of, node_of}
use Rattle.stored.specs.Objects.Becomes.{IsStored}
use Rattle.plan.specs.Internal.Values.{no_validations, of_kind}
use Rattle.plan.proofs.KindLemmas.{bare_alike}
use Rattle.plan.proofs.SetLemmas.{valid_one}
use Rattle.plan.proofs.kinds.bare_kind.Goals as goal

pub returns-in-Scalar-clause-alike : goal.returns-in-Scalar-clause-alike
returns-in-Scalar-clause-alike c =
    let kind = c.in-Scalar.scalar.kind in
    let description = c.args.node.now.description in
    let sort : sort_of c.args.node.now.sort ≡ scalar kind no_validations = ap sort_of c.in-Scalar.is ∙ ap (scalar kind) (c.asks_nothing.ensures c.if-asks_nothing.true) in
    let bare : node_of c.args.node.now ≡ node false description (scalar kind no_validations) = λ i. node (c.if-not-node.true i) description (sort i) in
    λ v. subst (λ N. IsStored (of_kind kind) v ↔ IsStored N v) (sym bare) (bare_alike c.stored_by_parts.ensures kind description v)

pub returns-in-Scalar-clause-one : goal.returns-in-Scalar-clause-one
returns-in-Scalar-clause-one c =
    let kind = c.in-Scalar.scalar.kind in
    let description = c.args.node.now.description in
    let sort : sort_of c.args.node.now.sort ≡ scalar kind no_validations = ap sort_of c.in-Scalar.is ∙ ap (scalar kind) (c.asks_nothing.ensures c.if-asks_nothing.true) in
    let N : Node = node false description (scalar kind no_validations) in
    let bare : node_of c.args.node.now ≡ N = λ i. node (c.if-not-node.true i) description (sort i) in
    λ v s. valid_one N v refl ((c.stored_by_parts.ensures N v).0 (subst (λ M. IsStored M v) bare s)).0
