use Rattle.std.proofs.Common.{drop}
use Rattle.std.specs.Vec.Iter.{into_iter_items}
use Rattle.schema.specs.Nodes.View.{node_of}
use Rattle.stored.specs.Internal.Defaulting.{FillsItems, FillsValues, FillsFields}
use Rattle.stored.proofs.defaulting.+fill.Given as goal

abbrev pub invariant-fill_items-loop-item : goal.invariant-fill_items-loop-item
invariant-fill_items-loop-item l = FillsItems (node_of l.node) l.fn.items (into_iter_items l.item-iterator) l.filled.items

abbrev pub invariant-fill_values-loop-member : goal.invariant-fill_values-loop-member
invariant-fill_values-loop-member l = FillsValues (node_of l.node) l.fn.members (into_iter_items l.member-iterator) l.filled.items

abbrev pub invariant-fill_fields-loop-field : goal.invariant-fill_fields-loop-field
invariant-fill_fields-loop-field l = FillsFields l.fn.fields l.fn.members (drop l.field-index l.field-items) l.rest.items l.filled.items
