use Rattle.std.proofs.Common.{◌≡◌, drop}
use Rattle.std.specs.Prelude.{option_map}
use Rattle.jtree.specs.View.{data_of, items_of}
use Rattle.definition.specs.Broken.{is_name_among}
use Rattle.definition.proofs.breaking.is_name_among.Given as goal

abbrev pub invariant-loop-version : goal.invariant-loop-version
invariant-loop-version l =
    is_name_among (option_map (λ t. data_of t.now) l.name) (items_of (drop l.version-index l.versions)) ≡ is_name_among (option_map (λ t. data_of t.now) l.name) (items_of l.versions)
