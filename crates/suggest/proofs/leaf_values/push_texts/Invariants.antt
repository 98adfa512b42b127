use Rattle.std.proofs.Common.{◌≡◌, ◌++◌, map, drop}
use Rattle.std.specs.Prelude.{filter}
use Rattle.jtree.specs.Data.{text}
use Rattle.schema.specs.Nodes.View.{node_of}
use Rattle.suggest.specs.View.{trees_of, texts_at}
use Rattle.suggest.specs.Suggested.LeafValues.{takes}
use Rattle.suggest.proofs.leaf_values.push_texts.Given as goal

abbrev pub invariant-loop-letters : goal.invariant-loop-letters
invariant-loop-letters l = trees_of l.values.items ++ filter (takes (node_of l.node)) (map (λ t. text t) (texts_at (drop l.letters-index l.letters-items)))
    ≡ trees_of l.initial.values.items ++ filter (takes (node_of l.node)) (map (λ t. text t) (texts_at l.letters-items))
