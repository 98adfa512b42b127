use Rattle.std.proofs.Common.{[], ◌∷◌}
use Rattle.jtree.specs.View.{data_of}
use Rattle.schema.specs.Nodes.View.{node_of}
use Rattle.stored.specs.Objects.Fault.{F01, F02, F03, F04, F05, F06, F07, F08, F09, F10, F11, F13, F14}
use Rattle.stored.specs.Internal.FailuresByLevel.{asks, progress}
use Rattle.stored.proofs.ReportLemmas.{reported_own}
use Rattle.stored.proofs.all_faults.find_own.Goals as goal

pub returns : goal.returns
returns c =
    let first = c.in_ok-add_failed.ensures in
    let second = c.in_ok-add_failed-2.ensures in
    let third = c.in_ok-add_failed-3.ensures in
    let fourth = c.in_ok-add_failed-4.ensures in
    reported_own (progress c.args.report.now) (progress c.add_failed.new.self) (progress c.add_failed-2.new.self) (progress c.add_failed-3.new.self) (progress c.add_failed-4.new.self)
    (λ t. asks c.args.is_repeated t (node_of c.args.node.now) (data_of c.args.tree.now))
    (F01 ∷ F02 ∷ []) (F03 ∷ F04 ∷ F05 ∷ F06 ∷ F07 ∷ []) (F08 ∷ F09 ∷ F10 ∷ F11 ∷ []) (F13 ∷ F14 ∷ [])
    (rw (c.is_of_other_kind.ensures, c.is_forbidden_null.ensures) at first)
    (rw c.constraint_tests.ensures at second)
    (rw c.bound_tests.ensures at third)
    (rw c.fails_junctors.ensures at fourth)
