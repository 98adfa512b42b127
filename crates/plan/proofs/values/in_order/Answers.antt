use Rattle.std.proofs.Common.{ap, ◌∙◌, subst}
use Rattle.std.proofs.lemmas.List.{map-append}
use Rattle.jtree.specs.View.{data_of}
use Rattle.plan.specs.Samples.Leasts.{leasts}
use Rattle.plan.specs.Internal.Values.{trees_of, IsBase}
use Rattle.plan.proofs.values.in_order.Goals as goal

pub returns : goal.returns
returns c = subst (λ ds. IsBase (leasts ds) c.put_values_in_order.new.trees.items) (ap trees_of c.in_ok-push_trees.ensures ∙ map-append (λ t. data_of t) c.args.first.items c.args.trees.now) c.put_values_in_order.ensures
