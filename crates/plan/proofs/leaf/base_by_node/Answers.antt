use Rattle.std.proofs.Common.{◌≡◌, ap, ◌∙◌, subst, ◌∷◌}
use Rattle.jtree.specs.Data.{null}
use Rattle.plan.specs.Pools.Pools.{items_list}
use Rattle.plan.specs.Samples.Leasts.{leasts}
use Rattle.plan.specs.Internal.Values.{trees_of, IsBase}
use Rattle.plan.proofs.PoolLemmas.{trees_listed}
use Rattle.plan.proofs.leaf.base_by_node.Goals as goal

pub returns-in_ok-with_null-in-Some : goal.returns-in_ok-with_null-in-Some
returns-in_ok-with_null-in-Some c = λ P v are leaf.
    let same : trees_of c.deref.result.now ≡ items_list c.in-Some.choices = ap trees_of c.deref.ensures.value ∙ trees_listed c.choices.inside.items.items ∙ ap items_list c.choices.view_is in
    rw (c.in-Scalar.is, c.in-Some.is) (subst (λ ds. IsBase (null ∷ leasts ds) c.in_ok-with_null-in-Some.field-0.items) same c.in_ok-with_null-in-Some.ensures)
