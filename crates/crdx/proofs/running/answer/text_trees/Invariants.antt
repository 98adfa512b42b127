use Rattle.std.proofs.Common.{◌≡◌, take, map}
use Rattle.jtree.specs.declared.value.Tree.TheVariants.{Text}
use Rattle.crdx.proofs.running.answer.text_trees.Given as goal

abbrev pub invariant-loop-text : goal.invariant-loop-text
invariant-loop-text l = l.trees.items ≡ map (λ t. Text t) (take l.text-index l.texts)
