use Rattle.std.proofs.Common.{◌≡◌, drop}
use Rattle.jtree.specs.View.{data_of}
use Rattle.definition.specs.Broken.{lacks_one}
use Rattle.definition.specs.Fields.{texts_at}
use Rattle.definition.proofs.fields.lacks_one.Given as goal

abbrev pub invariant-loop-name : goal.invariant-loop-name
invariant-loop-name l = lacks_one (texts_at (drop l.name-index l.names)) (data_of l.tree) ≡ lacks_one (texts_at l.names) (data_of l.tree)
