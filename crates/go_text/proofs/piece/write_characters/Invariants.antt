use Rattle.std.proofs.Common.{◌≡◌, ◌++◌, take}
use Rattle.go_text.specs.Internal.View.{text_of}
use Rattle.go_text.proofs.piece.write_characters.Given as goal

abbrev pub invariant-loop-c : goal.invariant-loop-c
invariant-loop-c l = text_of l.out ≡ text_of l.initial.out ++ take l.c-index l.characters
