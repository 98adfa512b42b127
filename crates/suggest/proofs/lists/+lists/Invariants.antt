use Rattle.std.proofs.Common.{◌≡◌, drop}
use Rattle.schema.specs.Nodes.View.{fields_of}
use Rattle.suggest.specs.View.{trees_at}
use Rattle.suggest.specs.Internal.Parts.{suggestions_of, lists_of_fields_there}
use Rattle.suggest.specs.Suggested.Varied.{both}
use Rattle.suggest.proofs.lists.+lists.Given as goal

abbrev pub invariant-add_lists_of_fields-loop-field : goal.invariant-add_lists_of_fields-loop-field
invariant-add_lists_of_fields-loop-field l = both (suggestions_of l.suggestions) (lists_of_fields_there l.general l.site (fields_of (drop l.field-index l.field-items)) (trees_at l.values))
    ≡ both (suggestions_of l.initial.suggestions) (lists_of_fields_there l.general l.site l.fields (trees_at l.values))
