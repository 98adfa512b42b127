use Rattle.std.proofs.Common.{◌≡◌, true, take}
use Rattle.std.specs.Prelude.{All}
use Rattle.std.specs.Ordering.{is_lt}
use Rattle.jtree.specs.Order.{text_cmp}
use Rattle.stored.proofs.all_faults.split_before.Given as goal

-- the members so far have names before the given one
abbrev pub invariant-loop-i : goal.invariant-loop-i
invariant-loop-i l = All (λ m. is_lt (text_cmp m.name l.name) ≡ true) (take l.i l.members)
