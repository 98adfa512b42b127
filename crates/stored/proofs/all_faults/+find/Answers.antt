use Rattle.std.proofs.Common.{ℕ, ◌<◌, arith, ap, subst, ◌≡◌, ◌++◌, ◌∙◌, false, map, take, length, string_bytes}
use Rattle.jtree.specs.Data.{Data}
use Rattle.jtree.specs.Path.{name, index, item_at}
use Rattle.jtree.specs.Pointer.{name_token}
use Rattle.jtree.specs.View.{data_of, members_of}
use Rattle.schema.specs.Nodes.View.{node_of}
use Rattle.stored.specs.Objects.Fault.{are_alike, has_alike_before, items_count}
use Rattle.stored.specs.Objects.AllFaults.{reported}
use Rattle.stored.specs.Internal.FailuresByLevel.{progress, added, under, joined, item_parts, found}
use Rattle.stored.proofs.CountLemmas.{items_counted}
use Rattle.stored.proofs.ReportLemmas.{left, items_more, values_more, fields_more}
use Rattle.stored.proofs.all_faults.+find.Goals as goal

pub find_in_items-index-requires : goal.find_in_items-index-requires
find_in_items-index-requires t c = omega (arith, c.in_ok-repeated.ensures.count, items_counted c.items.inside.items.items, ap items_count c.items.view_is)

pub find_in_items-loop-i-preserved : goal.find_in_items-loop-i-preserved
find_in_items-loop-i-preserved t c =
    let L = c.args.list.now in
    let xs = c.deref-item-items.result.now in
    let i = c.loop-i.i in
    let x = c.item-item.result in
    let failures = λ (i : ℕ) (d : Data). found c.args.strict (has_alike_before (are_alike L.list_type L.keys.items) i c.args.items.now (item_at i c.args.items.now)) L.item d in
    let old = progress c.loop-i.report in
    let new = progress c.find_item.new.report in
    let within : i < length xs = omega arith in
    let counted : i < items_count c.args.items.now = omega (arith, items_counted c.items.inside.items.items, ap items_count c.items.view_is) in
    let repeated = c.index.ensures ∙ c.in_ok-repeated.ensures.each i c.index.result.now counted in
    let node : node_of c.deref.result.now ≡ L.item = cc in
    items_more old new (added (progress c.args.report.now) (joined (item_parts failures 0 c.args.items.now))) failures xs i x within c.item-item.is
    (subst (λ N. new ≡ added old (under (index i) (found c.args.strict (has_alike_before (are_alike L.list_type L.keys.items) i c.args.items.now (item_at i c.args.items.now)) N (data_of x)))) node
    (subst (λ r. new ≡ added old (under (index i) (found c.args.strict r (node_of c.deref.result.now) (data_of x)))) repeated c.in_ok-find_item.ensures))
    c.loop-i.invariant

pub find_item-returns : goal.find_item-returns
find_item-returns t c =
    let old = c.args.report.now in
    let len : c.len-length.result ≡ length (string_bytes old.pointer) = omega (arith, c.len-length.ensures) in
    let fs = found c.args.strict c.args.is_repeated (node_of c.args.node.now) (data_of c.args.item.now) in
    left (string_bytes old.pointer) (map reported old.faults.items) (index c.args.index) fs (progress c.find.new.report) (string_bytes c.truncate.new.self)
    (subst (λ at. progress c.find.new.report ≡ added (record { pointer = at; reported = map reported old.faults.items }) fs) c.in_ok-push_index.ensures c.in_ok-find.ensures)
    (c.truncate.ensures.bytes ∙ ap (λ n. take n (string_bytes c.find.new.report.pointer)) len)

pub find_named-returns : goal.find_named-returns
find_named-returns t c =
    let old = c.args.report.now in
    let len : c.len-length.result ≡ length (string_bytes old.pointer) = omega (arith, c.len-length.ensures) in
    let fs = found c.args.strict false (node_of c.args.node.now) (data_of c.args.member.now.tree) in
    left (string_bytes old.pointer) (map reported old.faults.items) (name c.args.member.now.name) fs (progress c.find.new.report) (string_bytes c.truncate.new.self)
    (subst (λ at. progress c.find.new.report ≡ added (record { pointer = at; reported = map reported old.faults.items }) fs)
    (c.in_ok-push_name.ensures ∙ ap (λ k. string_bytes old.pointer ++ name_token k) c.as_str.ensures) c.in_ok-find.ensures)
    (c.truncate.ensures.bytes ∙ ap (λ n. take n (string_bytes c.find.new.report.pointer)) len)

pub find_in_fields-loop-field-preserved : goal.find_in_fields-loop-field-preserved
find_in_fields-loop-field-preserved t c =
    fields_more c.args.strict c.if-strict.drops (progress c.loop-field.report) (progress c.add_dropped.new.self) (progress c.find_at_field.new.report) _ c.deref-field-items.result.now c.loop-field.field-index c.field-item.result
    (members_of c.loop-field.rest.now) (members_of c.split_before.result.0.now) (members_of c.split_before.result.1.now) (members_of c.members_past-rest.result.now)
    (omega arith) c.field-item.is c.split_before.ensures.before c.split_before.ensures.from c.members_past-rest.ensures c.in_ok-add_dropped.ensures c.in_ok-find_at_field.ensures c.loop-field.invariant

pub find_in_values-loop-member-preserved : goal.find_in_values-loop-member-preserved
find_in_values-loop-member-preserved t c =
    let x = c.member-item.result in
    let old = progress c.loop-member.report in
    let new = progress c.find_named.new.report in
    let node : node_of c.deref.result.now ≡ c.args.map.now.value = cc in
    values_more old new _ (λ d. found c.args.strict false c.args.map.now.value d) c.deref-member-items.result.now c.loop-member.member-index x (omega arith) c.member-item.is
    (subst (λ N. new ≡ added old (under (name x.name) (found c.args.strict false N (data_of x.tree)))) node c.in_ok-find_named.ensures) c.loop-member.invariant
