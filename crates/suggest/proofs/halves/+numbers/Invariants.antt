use Rattle.std.proofs.Common.{◌≡◌, drop}
use Rattle.schema.specs.Nodes.View.{fields_of}
use Rattle.suggest.specs.Suggested.Halves.{have_numbers}
use Rattle.suggest.proofs.halves.+numbers.Given as goal

abbrev pub invariant-have_numbers-loop-field : goal.invariant-have_numbers-loop-field
invariant-have_numbers-loop-field l = have_numbers (fields_of (drop l.field-index l.field-items)) ≡ have_numbers l.fields
