use Rattle.std.proofs.Common.{◌≡◌, ◌++◌, drop}
use Rattle.std.specs.Prelude.{filter}
use Rattle.schema.specs.Nodes.View.{node_of}
use Rattle.suggest.specs.View.{trees_of, trees_at}
use Rattle.suggest.specs.Suggested.LeafValues.{takes}
use Rattle.suggest.proofs.leaf_values.stored_values.Given as goal

abbrev pub invariant-loop-value : goal.invariant-loop-value
invariant-loop-value l = trees_of l.values.items ++ filter (takes (node_of l.node)) (trees_at (drop l.value-index l.found)) ≡ filter (takes (node_of l.node)) (trees_at l.found)
