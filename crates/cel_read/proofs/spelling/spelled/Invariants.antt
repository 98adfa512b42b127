use Rattle.std.proofs.Common.{◌≡◌, take}
use Rattle.cel_read.specs.View.{text_of}
use Rattle.cel_read.proofs.spelling.spelled.Given as goal

abbrev pub invariant-loop-c : goal.invariant-loop-c
invariant-loop-c l = text_of l.out ≡ take l.c-index l.text
