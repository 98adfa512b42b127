use Rattle.std.proofs.Common.{◌≡◌, ℕ, drop, false}
use Rattle.jtree.specs.Data.{Data}
use Rattle.jtree.specs.Path.{item_at}
use Rattle.jtree.specs.View.{items_of, members_of}
use Rattle.schema.specs.Nodes.View.{fields_of}
use Rattle.stored.specs.Objects.Fault.{are_alike, has_alike_before}
use Rattle.stored.specs.Internal.FailuresByLevel.{progress, added, joined, found, field_parts, value_parts, item_parts}
use Rattle.stored.proofs.all_faults.+find.Given as goal

-- with the parts that are left, all is reported
abbrev pub invariant-find_in_fields-loop-field : goal.invariant-find_in_fields-loop-field
invariant-find_in_fields-loop-field l =
    added (progress l.report) (joined (field_parts l.strict l.drops (fields_of (drop l.field-index l.field-items)) (members_of l.rest)))
    ≡ added (progress l.initial.report) (joined (field_parts l.strict l.drops l.object.fields l.members))

abbrev pub invariant-find_in_values-loop-member : goal.invariant-find_in_values-loop-member
invariant-find_in_values-loop-member l =
    added (progress l.report) (joined (value_parts (λ d. found l.strict false l.map.value d) (members_of (drop l.member-index l.member-items))))
    ≡ added (progress l.initial.report) (joined (value_parts (λ d. found l.strict false l.map.value d) l.members))

abbrev pub invariant-find_in_items-loop-i : goal.invariant-find_in_items-loop-i
invariant-find_in_items-loop-i l =
    let failures = λ (i : ℕ) (d : Data). found l.strict (has_alike_before (are_alike l.list.list_type l.list.keys.items) i l.items (item_at i l.items)) l.list.item d in
    added (progress l.report) (joined (item_parts failures l.i (items_of (drop l.i l.item-items)))) ≡ added (progress l.initial.report) (joined (item_parts failures 0 l.items))
