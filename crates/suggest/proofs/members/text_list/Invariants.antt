use Rattle.std.proofs.Common.{◌≡◌, map, take}
use Rattle.jtree.specs.Data.{text, AreTrees}
use Rattle.jtree.specs.View.{items_of}
use Rattle.suggest.specs.View.{trees_of}
use Rattle.suggest.proofs.members.text_list.Given as goal

abbrev pub invariant-loop-text : goal.invariant-loop-text
invariant-loop-text l = record { trees : AreTrees (items_of l.items.items); are : trees_of l.items.items ≡ map (λ t. text t) (take l.text-index l.texts) }
