use Rattle.std.proofs.Common.{◌≡◌, true, drop}
use Rattle.jtree.specs.View.{members_of}
use Rattle.stored.specs.Internal.FailuresByLevel.{progress, added, joined, dropped}
use Rattle.stored.proofs.all_faults.Report.add_dropped.Given as goal

-- with the members that are left, all is reported
abbrev pub invariant-loop-member : goal.invariant-loop-member
invariant-loop-member l =
    added (progress l.self) (joined (dropped true (members_of (drop l.member-index l.members)))) ≡ added (progress l.initial.self) (joined (dropped true (members_of l.members)))
