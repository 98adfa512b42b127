use Rattle.std.proofs.Common.{◌≡◌, drop}
use Rattle.schema.specs.Nodes.View.{fields_of}
use Rattle.suggest.specs.View.{tree_at}
use Rattle.suggest.specs.Internal.Parts.{suggestions_of, varied_fields}
use Rattle.suggest.specs.Suggested.Varied.{both}
use Rattle.suggest.proofs.varying.+varied.Given as goal

abbrev pub invariant-add_fields-loop-field : goal.invariant-add_fields-loop-field
invariant-add_fields-loop-field l = both (suggestions_of l.suggestions) (varied_fields l.variation l.site (fields_of (drop l.field-index l.field-items)) (tree_at l.object))
    ≡ both (suggestions_of l.initial.suggestions) (varied_fields l.variation l.site l.fields (tree_at l.object))
