use Rattle.std.proofs.Common.{◌≡◌, drop}
use Rattle.jtree.specs.View.{members_of}
use Rattle.judge.specs.Envelope.{are_texts_where}
use Rattle.judge.specs.Internal.NameForms.{test_of}
use Rattle.judge.proofs.envelope.are_texts.Given as goal

-- the members that are left are good exactly where all are
abbrev pub invariant-loop-member : goal.invariant-loop-member
invariant-loop-member l = are_texts_where (test_of l.keys) (test_of l.values) (members_of (drop l.member-index l.member-items)) ≡ are_texts_where (test_of l.keys) (test_of l.values) l.map
