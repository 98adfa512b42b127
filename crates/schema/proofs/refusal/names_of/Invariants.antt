use Rattle.std.proofs.Common.{◌≡◌, ◌++◌, drop}
use Rattle.jtree.specs.View.{items_of}
use Rattle.schema.specs.Document.Refusal.{names_of}
use Rattle.schema.proofs.refusal.names_of.Given as goal

-- the names so far, and those of the versions that are left
abbrev pub invariant-loop-version : goal.invariant-loop-version
invariant-loop-version l = l.names.items ++ names_of (items_of (drop l.version-index l.version-items)) ≡ names_of (items_of l.version-items)
