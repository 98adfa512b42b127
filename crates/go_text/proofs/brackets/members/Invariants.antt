use Rattle.std.proofs.Common.{◌≤◌, length, true, option_map}
use Rattle.go_text.specs.Brackets.{members}
use Rattle.go_text.specs.Internal.View.{text_of}
use Rattle.go_text.specs.Internal.Written.{behind}
use Rattle.go_text.proofs.MemberLemmas.{IsAhead}
use Rattle.go_text.proofs.brackets.members.Given as goal

abbrev pub invariant-loop-c : goal.invariant-loop-c
invariant-loop-c l = record {
  ahead : IsAhead (option_map (behind (text_of l.initial.out)) (members (length l.text) true l.text)) (text_of l.out) l.first l.rest;
  shorter : length l.rest ≤ length l.text;
}

abbrev pub decreases-loop-c : goal.decreases-loop-c
decreases-loop-c l = length l.rest
