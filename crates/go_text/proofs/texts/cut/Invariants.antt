use Rattle.std.proofs.Common.{◌≡◌, option_map, take, drop}
use Rattle.go_text.specs.Texts.{cut}
use Rattle.go_text.proofs.TextLemmas.{with_front}
use Rattle.go_text.proofs.texts.cut.Given as goal

abbrev pub invariant-loop-i : goal.invariant-loop-i
invariant-loop-i l = option_map (with_front (take l.i l.text)) (cut l.mark (drop l.i l.text)) ≡ cut l.mark l.text
