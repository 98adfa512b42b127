use Rattle.std.proofs.Common.{◌≡◌, drop}
use Rattle.std.specs.Prelude.{if◌then◌else◌}
use Rattle.jtree.specs.View.{items_of}
use Rattle.definition.specs.Broken.{none_stored, one_stored}
use Rattle.definition.proofs.breaking.one_stored.Given as goal

-- where one is found, none of those that are left may be stored
abbrev pub invariant-loop-version : goal.invariant-loop-version
invariant-loop-version l =
    (if l.found then none_stored (items_of (drop l.version-index l.versions)) else one_stored (items_of (drop l.version-index l.versions))) ≡ one_stored (items_of l.versions)
