use Rattle.std.proofs.Common.{◌≡◌, drop}
use Rattle.schema.specs.Nodes.View.{fields_of}
use Rattle.suggest.specs.View.{tree_at}
use Rattle.suggest.specs.Suggested.Varied.{reach_by_fields}
use Rattle.suggest.proofs.varying.+reach.Given as goal

abbrev pub invariant-reach_by_fields-loop-field : goal.invariant-reach_by_fields-loop-field
invariant-reach_by_fields-loop-field l = reach_by_fields l.text (tree_at l.object) l.path (fields_of (drop l.field-index l.field-items)) ≡ reach_by_fields l.text (tree_at l.object) l.path l.fields
