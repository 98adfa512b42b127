use Rattle.std.proofs.Common.{◌≡◌, None, subst, ◌∷◌}
use Rattle.std.specs.Prelude.{unwrap_or}
use Rattle.jtree.specs.Data.{null}
use Rattle.schema.specs.Nodes.View.{node_of}
use Rattle.plan.specs.Pools.Pools.{list_at}
use Rattle.plan.specs.Samples.Leasts.{leasts}
use Rattle.plan.specs.Samples.Over.{listed_for}
use Rattle.plan.specs.Internal.Values.{IsBase, base_of}
use Rattle.plan.proofs.LeafLemmas.{ok_so}
use Rattle.plan.proofs.leaf.base_at.Goals as goal

pub returns-in-None : goal.returns-in-None
returns-in-None c =
    let P = c.args.pools.now in
    let none : None ≡ list_at c.args.path.now P = rw c.in-None.is at c.list_at.ensures in
    ok_so c.base_by_node.result _ _ c.base_by_node.ensures (λ b base v are leaf. subst (λ o. IsBase (null ∷ leasts (unwrap_or o (listed_for P (node_of c.args.node.now)))) (base_of v b)) none (base P v are leaf))

pub returns-in_ok-with_null-in-Some : goal.returns-in_ok-with_null-in-Some
returns-in_ok-with_null-in-Some c = λ v are leaf.
    let some = rw c.in-Some.is at c.list_at.ensures in
    subst (λ o. IsBase (null ∷ leasts (unwrap_or o (listed_for c.args.pools.now (node_of c.args.node.now)))) c.in_ok-with_null-in-Some.field-0.items) some c.in_ok-with_null-in-Some.ensures
