use Rattle.std.proofs.Common.{◌≡◌, ◌++◌, drop}
use Rattle.schema.specs.Nodes.View.{fields_of}
use Rattle.suggest.specs.Suggested.Scalars.{in_fields}
use Rattle.suggest.specs.Suggested.Values.{bounds_with_neighbours, short_lengths}
use Rattle.suggest.proofs.finding.+nodes.Given as goal

-- with the fields that are left, all is found
abbrev pub invariant-add_fields-loop-field : goal.invariant-add_fields-loop-field
invariant-add_fields-loop-field l = record {
  integers : l.found.integers.items ++ in_fields bounds_with_neighbours (fields_of (drop l.field-index l.field-items)) ≡ l.initial.found.integers.items ++ in_fields bounds_with_neighbours l.fields;
  lengths : l.found.lengths.items ++ in_fields short_lengths (fields_of (drop l.field-index l.field-items)) ≡ l.initial.found.lengths.items ++ in_fields short_lengths l.fields;
}
