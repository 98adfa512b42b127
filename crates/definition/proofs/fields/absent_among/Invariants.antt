use Rattle.std.proofs.Common.{◌≡◌, ◌++◌, drop}
use Rattle.jtree.specs.View.{data_of}
use Rattle.definition.specs.Broken.{absent_among}
use Rattle.definition.specs.Fields.{texts_at}
use Rattle.definition.proofs.fields.absent_among.Given as goal

-- with those that are left, all are found
abbrev pub invariant-loop-name : goal.invariant-loop-name
invariant-loop-name l = texts_at l.found.items ++ absent_among (texts_at (drop l.name-index l.names)) (data_of l.tree) ≡ absent_among (texts_at l.names) (data_of l.tree)
