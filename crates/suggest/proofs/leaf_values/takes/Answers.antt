use Rattle.std.proofs.Common.{◌≡◌, Decides, sym, subst}
use Rattle.jtree.specs.View.{data_of}
use Rattle.schema.specs.Nodes.Node.{node}
use Rattle.schema.specs.Nodes.View.{sort_of, validations_of}
use Rattle.stored.specs.Objects.Becomes.{IsStored}
use Rattle.suggest.specs.Suggested.LeafValues.{takes}
use Rattle.suggest.proofs.LeafValueLemmas.{scalar_takes}
use Rattle.suggest.proofs.leaf_values.takes.Goals as goal

pub returns-in-Scalar-default : goal.returns-in-Scalar-default
returns-in-Scalar-default c =
    let n = c.args.node.now in
    let t = c.args.value.now in
    let s = c.in-Scalar-default.field-0-0 in
    let is = c.in-Scalar-default.is-0 in
    subst (λ x. c.is_stored.result ≡ takes (node n.nullable n.description (sort_of x)) (data_of t)) (sym is)
    (scalar_takes c.stored_by_parts.ensures n.nullable n.description s.kind (validations_of s.validations) t c.is_stored.result c.in-Scalar-default.not-Null-1
    (subst (λ x. Decides c.is_stored.result (IsStored (node n.nullable n.description (sort_of x)) (data_of t))) is c.is_stored.ensures))
