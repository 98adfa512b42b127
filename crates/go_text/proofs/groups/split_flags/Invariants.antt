use Rattle.std.proofs.Common.{◌≡◌, take, drop}
use Rattle.go_text.specs.Groups.{split_flags}
use Rattle.go_text.proofs.TextLemmas.{with_front}
use Rattle.go_text.proofs.groups.split_flags.Given as goal

abbrev pub invariant-loop-i : goal.invariant-loop-i
invariant-loop-i l = with_front (take l.i l.text) (split_flags (drop l.i l.text)) ≡ split_flags l.text
