use Rattle.std.proofs.Common.{refl, arith, [], ◌∷◌}
use Rattle.stored.specs.Objects.Fault.{F15}
use Rattle.stored.specs.Internal.FailuresByLevel.{progress, here}
use Rattle.stored.proofs.ReportLemmas.{values_more}
use Rattle.stored.proofs.all_faults.Report.add_dropped.Goals as goal

pub loop-member-preserved : goal.loop-member-preserved
loop-member-preserved c =
    values_more (progress c.loop-member.self) (progress c.add_below.new.self) _ (λ d. here F15 ∷ []) c.args.members.now c.loop-member.member-index c.member-item.result (omega arith) c.member-item.is
    (rw c.as_str.ensures at (c.in_ok-add_below.ensures F15 refl)) c.loop-member.invariant
