use Rattle.std.proofs.Common.{◌≡◌, drop, nat_eq}
use lib.Pointwise.{pointwise}
use Rattle.go_text.proofs.texts.spells.Given as goal

abbrev pub invariant-loop-i : goal.invariant-loop-i
invariant-loop-i l = pointwise nat_eq (drop l.i l.text) (drop l.i l.bytes) ≡ pointwise nat_eq l.text l.bytes
