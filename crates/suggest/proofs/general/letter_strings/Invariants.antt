use Rattle.std.proofs.Common.{◌≡◌, map, take}
use Rattle.jtree.specs.Data.{text}
use Rattle.suggest.specs.View.{trees_of}
use Rattle.suggest.specs.Suggested.Document.{letters}
use Rattle.suggest.proofs.general.letter_strings.Given as goal

abbrev pub invariant-loop-length : goal.invariant-loop-length
invariant-loop-length l = trees_of l.trees.items ≡ map (λ n. text (letters n)) (take l.length-index l.lengths)
