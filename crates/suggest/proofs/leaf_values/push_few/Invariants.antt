use Rattle.std.proofs.Common.{◌≡◌, ◌++◌, take, drop}
use Rattle.std.specs.Prelude.{filter}
use Rattle.schema.specs.Nodes.View.{node_of}
use Rattle.suggest.specs.View.{trees_of}
use Rattle.suggest.specs.Suggested.LeafValues.{takes, few}
use Rattle.suggest.proofs.leaf_values.push_few.Given as goal

abbrev pub invariant-loop-value : goal.invariant-loop-value
invariant-loop-value l = trees_of l.values.items ++ take l.left (filter (takes (node_of l.node)) (trees_of (drop l.value-index l.pool)))
    ≡ trees_of l.initial.values.items ++ take few (filter (takes (node_of l.node)) (trees_of l.pool))
