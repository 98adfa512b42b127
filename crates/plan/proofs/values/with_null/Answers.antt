use Rattle.plan.specs.Internal.Values.{trees_of}
use Rattle.plan.proofs.LeafLemmas.{ok_so}
use Rattle.plan.proofs.ValueLemmas.{null_beside}
use Rattle.plan.proofs.values.with_null.Goals as goal

pub returns : goal.returns
returns c = ok_so c.in_order.result _ _ c.in_order.ensures (λ v b. null_beside (trees_of c.args.trees.now) v.items (rw c.in_ok-vec.ensures.items at b))
