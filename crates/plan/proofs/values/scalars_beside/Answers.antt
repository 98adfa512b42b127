use Rattle.std.proofs.Common.{◌≡◌, map, ◌++◌, ◌∷◌, subst}
use Rattle.jtree.specs.Data.{null, integer, text}
use Rattle.jtree.specs.declared.value.Tree.TheVariants as tree
use Rattle.plan.specs.Samples.Leasts.{leasts}
use Rattle.plan.specs.Samples.Over.{scalars_of}
use Rattle.plan.specs.Internal.Values.{trees_of, IsBase}
use Rattle.plan.proofs.ValueLemmas.{null_beside, scalars_joined}
use Rattle.plan.proofs.values.scalars_beside.Goals as goal

pub returns : goal.returns
returns c =
    let all : trees_of c.push_texts.new.trees.items ≡ null ∷ trees_of c.args.beside.now ++ scalars_of c.args.pools.now =
    rw (c.in_ok-push_texts.ensures, c.in_ok-push_integers.ensures, c.in_ok-push-2.ensures.items, c.in_ok-push.ensures.items, c.in_ok-push_trees.ensures, c.in_ok-trees.ensures.items, c.integers.ensures.entries, c.strings.ensures)
    (scalars_joined (tree.Null ∷ c.args.beside.now) (map (λ z. integer z) c.args.pools.now.integers) (map (λ t. text t) c.args.pools.now.strings)) in
    null_beside (trees_of c.args.beside.now ++ scalars_of c.args.pools.now) c.put_values_in_order.new.trees.items
    (subst (λ ds. IsBase (leasts ds) c.put_values_in_order.new.trees.items) all c.put_values_in_order.ensures)
