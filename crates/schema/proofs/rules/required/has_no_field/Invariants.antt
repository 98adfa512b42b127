use Rattle.std.proofs.Common.{◌≡◌, drop}
use Rattle.std.specs.Prelude.{option_map}
use Rattle.jtree.specs.Data.{object}
use Rattle.jtree.specs.View.{items_of}
use Rattle.schema.specs.Rules.Keywords.{members_in, any_item}
use Rattle.schema.specs.Rules.Profile.{is_no_field}
use Rattle.schema.proofs.rules.required.has_no_field.Given as goal

-- a name is no field exactly where one of those that are left is none
abbrev pub invariant-loop-name : goal.invariant-loop-name
invariant-loop-name l =
    any_item (is_no_field l.fields.at_root l.fields.envelope (members_in (option_map (λ m. object m.now) l.fields.properties))) (items_of (drop l.name-index l.names))
    ≡ any_item (is_no_field l.fields.at_root l.fields.envelope (members_in (option_map (λ m. object m.now) l.fields.properties))) (items_of l.names)
