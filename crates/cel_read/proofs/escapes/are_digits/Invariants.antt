use Rattle.std.proofs.Common.{◌≡◌, take, true}
use Rattle.cel_read.specs.Lexemes.{are_digits}
use Rattle.cel_read.proofs.escapes.are_digits.Given as goal

abbrev pub invariant-loop-c : goal.invariant-loop-c
invariant-loop-c l = are_digits l.radix (take l.c-index l.text) ≡ true
