use Rattle.std.proofs.Common.{◌≡◌, take}
use Rattle.std.specs.Prelude.{All}
use Rattle.std.specs.declared.cmp.Ordering.TheVariants.{Greater}
use Rattle.jtree.specs.Order.{text_cmp}
use Rattle.jtree.proofs.members.search.Given as goal

abbrev pub invariant-loop-i : goal.invariant-loop-i
invariant-loop-i l = All (λ m. text_cmp l.name m.name ≡ Greater) (take l.i l.members)
