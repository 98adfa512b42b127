use Rattle.std.proofs.Common.{ℕ, List, Option, ◌≡◌, ◌++◌, Some, subst, map, option_map, codes, arith}
use Rattle.jtree.specs.Path.{name, index}
use Rattle.jtree.specs.View.{data_of}
use Rattle.schema.specs.Nodes.Node.{Node}
use Rattle.schema.specs.Nodes.View.{node_of}
use Rattle.stored.specs.Objects.Leaves.{item_element, elements_of}
use Rattle.stored.specs.Internal.Pruning.{field_node}
use Rattle.stored.specs.Internal.LeavesByLevel.{below, of_members, of_items, leaves_by_level, part_leaves, walked, added}
use Rattle.stored.proofs.ListingLemmas.{part_listed, members_more, items_more}
use Rattle.stored.proofs.listing.+list.Goals as goal

pub list_fields-loop-member-preserved : goal.list_fields-loop-member-preserved
list_fields-loop-member-preserved t c = members_more (walked c.loop-member.walk) (walked c.list_field.new.walk) (added (walked c.args.walk.now) (of_members (field_node c.args.fields.now) c.args.members.now))
    (field_node c.args.fields.now) c.deref-member-items.result.now c.loop-member.member-index c.member-item.result c.loop-member-test.true c.member-item.is c.in_ok-list_field.ensures c.loop-member.invariant

pub list_values-loop-member-preserved : goal.list_values-loop-member-preserved
list_values-loop-member-preserved t c =
    let nodes : List ℕ → Option Node = λ k. Some c.args.map.now.value in
    let m = c.member-item.result in
    let node : node_of c.deref.result.now ≡ c.args.map.now.value = cc in
    members_more (walked c.loop-member.walk) (walked c.list_named.new.walk) (added (walked c.args.walk.now) (of_members nodes c.args.members.now))
    nodes c.deref-member-items.result.now c.loop-member.member-index c.member-item.result c.loop-member-test.true c.member-item.is
    (subst (λ N. walked c.list_named.new.walk ≡ added (walked c.loop-member.walk) (map (below (name m.name) (codes "f:" ++ m.name)) (leaves_by_level N (data_of m.tree)))) node c.in_ok-list_named.ensures)
    c.loop-member.invariant

pub list_items-loop-item-preserved : goal.list_items-loop-item-preserved
list_items-loop-item-preserved t c =
    let L = c.args.list.now in
    let element = item_element L.list_type L.keys.items in
    items_more (walked c.loop-item.walk) (walked c.list_item.new.walk) (added (walked c.args.walk.now) (of_items L.item element 0 c.args.items.now))
    L.item element c.deref-item-items.result.now c.loop-item.item-index c.item-item.result c.loop-item-test.true c.item-item.is (c.in_ok-list_item.ensures c.loop-item.item-index) c.loop-item.invariant

pub list_item-returns : goal.list_item-returns
list_item-returns t c = λ i.
    let old = c.args.walk.now in
    let listed = map elements_of old.leaves.items in
    let L = c.args.list.now in
    let v = data_of c.args.item.now in
    let node : node_of c.deref.result.now ≡ L.item = cc in
    part_listed old.way.items c.push.new.self.items listed (index i) c.in_ok-item_element.field-0 (item_element L.list_type L.keys.items v) (leaves_by_level L.item v) (walked c.list_tree.new.walk)
    c.len-depth.result c.truncate.new.self.items
    c.in_ok-item_element.ensures
    c.in_ok-push.ensures.items
    (subst (λ N. walked c.list_tree.new.walk ≡ added (record { way = c.push.new.self.items; listed = listed }) (leaves_by_level N v)) node c.in_ok-list_tree.ensures)
    (omega (arith, c.len-depth.ensures, old.way.ok.0))
    c.truncate.ensures.items

pub list_named-returns : goal.list_named-returns
list_named-returns t c =
    let old = c.args.walk.now in
    let k = c.args.member.now.name in
    part_listed old.way.items c.push.new.self.items (map elements_of old.leaves.items) (name k) c.in_ok-text_element.field-0 (codes "f:" ++ k)
    (part_leaves (option_map (λ n. node_of n.now) c.args.node) (data_of c.args.member.now.tree)) (walked c.list_value.new.walk) c.len-depth.result c.truncate.new.self.items
    (rw c.as_str.ensures at c.in_ok-text_element.ensures)
    c.in_ok-push.ensures.items
    c.in_ok-list_value.ensures
    (omega (arith, c.len-depth.ensures, old.way.ok.0))
    c.truncate.ensures.items
