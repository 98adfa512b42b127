use Rattle.std.proofs.Common.{◌≡◌, drop, string_bytes}
use Rattle.stored.specs.Internal.FailuresByLevel.{progress, noted, failed}
use Rattle.stored.proofs.all_faults.Report.add_failed.Given as goal

-- with the tests that are left, all is reported
abbrev pub invariant-loop-number : goal.invariant-loop-number
invariant-loop-number l =
    noted (progress l.self) (failed (string_bytes l.self.pointer) (drop l.number-index l.tests))
    ≡ noted (progress l.initial.self) (failed (string_bytes l.initial.self.pointer) l.tests)
