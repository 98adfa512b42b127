use Rattle.std.proofs.Common.{◌≡◌, drop}
use Rattle.jtree.specs.View.{items_of}
use Rattle.judge.specs.Asked.{some_repeats, schemas_of}
use Rattle.judge.proofs.repetition.some_repeats.Given as goal

abbrev pub invariant-loop-schema : goal.invariant-loop-schema
invariant-loop-schema l = some_repeats (schemas_of (drop l.schema-index l.schemas)) (items_of l.items) l.index ≡ some_repeats (schemas_of l.schemas) (items_of l.items) l.index
