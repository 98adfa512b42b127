use Rattle.std.proofs.Common.{length, chars}
use Rattle.go_text.specs.KitSyntax.{in_kit_syntax}
use Rattle.go_text.specs.Internal.View.{text_of}
use Rattle.go_text.proofs.ConstructLemmas.{IsAhead}
use Rattle.go_text.proofs.carrying.in_kit_syntax.Given as goal

abbrev pub invariant-loop-c : goal.invariant-loop-c
invariant-loop-c l = IsAhead (in_kit_syntax (chars l.text)) (text_of l.out) l.place.after_repetition l.place.rest.now

abbrev pub decreases-loop-c : goal.decreases-loop-c
decreases-loop-c l = length l.place.rest.now
