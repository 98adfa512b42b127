use Rattle.std.proofs.Common.{◌≡◌, ◌++◌, map, take}
use Rattle.jtree.specs.Data.{text}
use Rattle.plan.specs.Internal.Values.{trees_of}
use Rattle.plan.proofs.values.push_texts.Given as goal

abbrev pub invariant-loop-text : goal.invariant-loop-text
invariant-loop-text l = trees_of l.trees.items ≡ trees_of l.initial.trees.items ++ map (λ t. text t) (take l.text-index l.texts)
