use Rattle.std.proofs.Common.{◌≡◌, drop}
use Rattle.jtree.specs.View.{items_of}
use Rattle.crdx.specs.Program.CheckAnswer.{version_in}
use Rattle.crdx.proofs.running.definition_faults.version_in.Given as goal

-- the version is the first of those that are left
abbrev pub invariant-loop-version : goal.invariant-loop-version
invariant-loop-version l = version_in l.name (items_of (drop l.version-index l.version-items)) ≡ version_in l.name l.versions
