use Rattle.std.proofs.Common.{◌≡◌, false, None, ap, subst, take, refl, [], ◌∙◌, length, arith, rules}
use Rattle.std.specs.Prelude.{option_map}
use Rattle.std.proofs.lemmas.List.{take_more}
use Rattle.schema.specs.Nodes.Node.{node, object, map as map_sort, list as list_sort}
use Rattle.plan.proofs.BuildingLemmas.{kept_on, leaf_answered, sort_answered, field_built, no_fields_built, row_built, list_built, last_site, three_ok}
use Rattle.schema.specs.Nodes.View.{node_of, sort_of, object_of, map_of, list_of, validations_of}
use Rattle.plan.specs.Samples.Presence.{no_validations}
use Rattle.explain.specs.Paths.FieldPath.{value}
use Rattle.plan.specs.Samples.Sites.{below, field_slots}
use Rattle.plan.specs.Samples.Sizes.{bounds_at, ending_at}
use Rattle.plan.specs.Internal.Arena.{AreSlots}
use Rattle.plan.specs.Internal.Values.{trees_of}
use Rattle.plan.proofs.NameLemmas.{few_named}
use Rattle.plan.proofs.SeenLemmas.{closed_of, map_met, object_met}
use Rattle.plan.proofs.building.+build.Goals as goal

pub build_fields-loop-field-preserved : goal.build_fields-loop-field-preserved
build_fields-loop-field-preserved g t c =
    let holds = g.Z.SizeSet.holds in
    let inv = c.loop-field.invariant in
    let items = c.deref-field-items.result.now in
    let i = c.loop-field.field-index in
    let field = c.field-item.result in
    let slot = c.in_ok-slot.ensures in
    record {
      kept = kept_on c.args.arena.now c.loop-field.arena c.build_field.new.arena inv.kept slot.below_is.kept;
      built = rw (c.in_ok-push.ensures.items, take_more items i field c.loop-field-test.true, ← c.field-item.is)
          (field_built holds c.args.arena.now.limit c.args.pools.now c.args.arena.now.values c.args.arena.now.entries.items c.loop-field.arena.entries.items c.build_field.new.arena.entries.items c.args.path.now (take i items) field c.args.keys.now c.args.named.now c.loop-field.slots.items c.in_ok-slot.slot inv.built (rw (inv.kept.1, inv.kept.0) at slot.below_is.built) slot.slot slot.slot.closed);
    }

pub build_object-returns : goal.build_object-returns
build_object-returns g t c =
    let v = c.args.arena.now.values in
    let o = c.args.object.now in
    let cs = validations_of o.junctors in
    let mid = c.build_fields.new.arena.entries.items in
    let names = c.in_ok-named.named.items in
    let built = rw c.deref.ensures.value at c.in_ok-slots.ensures in
    let b = built.built in
    let ends = c.in_ok-ends.ends.items in
    let right = rw (c.deref-3.ensures.value, built.kept.1, built.kept.0) at c.in_ok-entry.ensures in
    three_ok c.add.result _ _ _ _ c.add.ensures.number c.add.ensures.count c.add.ensures.added
    (λ n number count added m d takes. record {
      kept = kept_on c.args.arena.now c.build_fields.new.arena c.add.new.self built.kept c.add.ensures.kept;
      built = row_built g.Z.SizeSet.holds c.args.arena.now.limit c.args.pools.now v c.args.arena.now.entries.items mid c.add.new.self.entries.items c.args.path.now m d (object o.fields o.preserves o.map_type o.bounds cs) c.args.keys.now o.bounds cs ends c.in_ok-slots.slots.items c.args.nullable n c.in_ok-entry.entry
          takes c.reveal_invariant.ensures refl refl
          (λ sound. object_met cs names ends (c.in_ok-named.ensures.names (few_named o.fields cs sound)) (rw c.deref-2.ensures.value at c.in_ok-ends.ensures.whole) (rw c.deref-2.ensures.value at c.in_ok-ends.ensures.each))
          (number ∙ b.count) count b.right
          (λ sites values sound placed. subst (λ ns. AreSlots v.names.items sites n c.in_ok-slots.slots.items (field_slots c.args.pools.now c.args.path.now c.args.keys.now ns o.fields)) (c.in_ok-named.ensures.names (few_named o.fields cs sound)) (b.slots_are v.names.items sites n placed (omega arith))) added number right;
    })

pub build_map-returns : goal.build_map-returns
build_map-returns g t c =
    let v = c.args.arena.now.values in
    let m = c.args.map.now in
    let old = c.args.arena.now.entries.items in
    let mid = c.build.new.arena.entries.items in
    let p = c.in_ok-value.value in
    let built = rw (c.fixed_at.ensures, c.node_below.ensures, c.deref.ensures, c.deref-2.ensures, c.in_ok-below.ensures) at c.in_ok-value.ensures in
    let b = built.built in
    let names = rw built.kept.0 at c.len.ensures in
    let right = rw (built.kept.1, built.kept.0) at c.in_ok-entry.ensures in
    let asked = rw (c.deref-3.ensures, c.in_ok-below.ensures) at c.is_present.ensures in
    let bounds : ending_at c.args.pools.now c.args.path.now (node false None (map_sort m.value m.map_type m.bounds)) ≡ record { bounds = c.raised-bounds.result; asked = no_validations } =
    rw (c.raised-bounds.ensures, asked) refl in
    three_ok c.add.result _ _ _ _ c.add.ensures.number c.add.ensures.count c.add.ensures.added
    (λ n number count added k d takes. record {
      kept = kept_on c.args.arena.now c.build.new.arena c.add.new.self built.kept c.add.ensures.kept;
      built = row_built g.Z.SizeSet.holds c.args.arena.now.limit c.args.pools.now v old mid c.add.new.self.entries.items c.args.path.now k d (map_sort m.value m.map_type m.bounds) c.args.keys.now c.raised-bounds.result no_validations _ c.in_ok-slots.slots.items c.args.nullable n c.in_ok-entry.entry
          takes c.reveal_invariant.ensures refl bounds (λ sound. map_met) (number ∙ b.count) count b.right
          (λ sites values sound placed. rw (← values.names) (c.in_ok-slots.ensures.slots v.names.items sites n c.args.pools.now c.args.path.now m.value (omega (arith, names)) (omega (arith, b.last, number)) (last_site c.args.pools.now _ sites (length old) p (below c.args.path.now value) m.value [] (omega (arith, b.last, b.count)) placed))) added number right;
    })

pub build_list-returns : goal.build_list-returns
build_list-returns g t c =
    let l = c.args.list.now in
    let built = rw (c.fixed_item.ensures, c.node_below.ensures, c.item_keys.ensures, c.deref.ensures, c.deref-2.ensures, c.in_ok-below.ensures) at c.in_ok-item.ensures in
    let right = rw (built.kept.1, built.kept.0) at c.in_ok-entry.ensures in
    let asked = rw (c.deref-3.ensures, c.in_ok-below.ensures) at c.is_present.ensures in
    let bounds : bounds_at c.args.pools.now c.args.path.now (node false None (list_sort l.item l.list_type l.keys.items l.bounds)) ≡ c.raised-bounds.result = rw (c.raised-bounds.ensures, asked) refl in
    three_ok c.add.result _ _ _ _ c.add.ensures.number c.add.ensures.count c.add.ensures.added
    (λ n number count added m d takes. record {
      kept = kept_on c.args.arena.now c.build.new.arena c.add.new.self built.kept c.add.ensures.kept;
      built = list_built g.Z.SizeSet.holds c.args.arena.now.limit c.args.pools.now c.args.arena.now.values c.args.arena.now.entries.items c.build.new.arena.entries.items c.add.new.self.entries.items c.args.path.now m d l.item l.list_type l.keys.items l.bounds c.raised-bounds.result c.args.keys.now
          c.in_ok-item.item c.args.nullable n c.in_ok-entry.entry takes bounds c.reveal_invariant.ensures built.built number count added right;
    })

pub build_field-returns : goal.build_field-returns
build_field-returns g t c = record {
  below_is = search rules;
  slot = record { name_is = λ names. c.in_ok-copy.ensures; must = search rules; key = search rules; bit = c.bit_of.ensures.bit; closed = closed_of _ _ (search rules) c.bit_of.ensures.below };
}

pub build_fields-loop-field-init : goal.build_fields-loop-field-init
build_fields-loop-field-init g t c =
    let a = c.args.arena.now in
    record { kept = (refl, refl); built = rw c.in_ok-slots.ensures.items (no_fields_built g.Z.SizeSet.holds a.limit c.args.pools.now a.values a.entries.items c.args.path.now c.args.keys.now c.args.named.now) }

pub build_map-row_entry-requires-clause-below : goal.build_map-row_entry-requires-clause-below
build_map-row_entry-requires-clause-below g t c = λ k d l. let h = c.in_ok-slots.ensures.below k d l in omega (arith, c.in_ok-value.ensures.built.last)

pub build_list-list_entry-requires-clause-item : goal.build_list-list_entry-requires-clause-item
build_list-list_entry-requires-clause-item g t c = omega (arith, c.in_ok-item.ensures.built.last)

pub build-returns-then-is_some : goal.build-returns-then-is_some
build-returns-then-is_some g t c =
    leaf_answered g.Z.SizeSet.holds c.args.arena.now c.build_leaf.new.arena c.args.pools.now (option_map (λ ts. trees_of ts.now) c.args.fixed) c.args.path.now (node_of c.args.node.now) c.args.keys.now
    c.in_ok-nullable.nullable c.build_leaf.result c.in_ok-nullable.ensures c.build_leaf.ensures

pub build-returns-in-Object : goal.build-returns-in-Object
build-returns-in-Object g t c =
    sort_answered g.Z.SizeSet.holds c.args.arena.now c.build_object.new.arena c.args.pools.now (λ ts. trees_of ts.now) c.args.fixed c.args.path.now c.args.node.now.nullable c.args.node.now.description
    (sort_of c.args.node.now.sort) (object_of c.in-Object.object) c.args.keys.now c.in_ok-nullable.nullable c.build_object.result c.if-is_some.ensures (ap sort_of c.in-Object.is) c.in_ok-nullable.ensures c.build_object.ensures

pub build-returns-in-Map : goal.build-returns-in-Map
build-returns-in-Map g t c =
    sort_answered g.Z.SizeSet.holds c.args.arena.now c.build_map.new.arena c.args.pools.now (λ ts. trees_of ts.now) c.args.fixed c.args.path.now c.args.node.now.nullable c.args.node.now.description
    (sort_of c.args.node.now.sort) (map_of c.in-Map.map) c.args.keys.now c.in_ok-nullable.nullable c.build_map.result c.if-is_some.ensures (ap sort_of c.in-Map.is) c.in_ok-nullable.ensures c.build_map.ensures

pub build-returns-in-List : goal.build-returns-in-List
build-returns-in-List g t c =
    sort_answered g.Z.SizeSet.holds c.args.arena.now c.build_list.new.arena c.args.pools.now (λ ts. trees_of ts.now) c.args.fixed c.args.path.now c.args.node.now.nullable c.args.node.now.description
    (sort_of c.args.node.now.sort) (list_of c.in-List.list) c.args.keys.now c.in_ok-nullable.nullable c.build_list.result c.if-is_some.ensures (ap sort_of c.in-List.is) c.in_ok-nullable.ensures c.build_list.ensures

pub build-returns-in-Scalar : goal.build-returns-in-Scalar
build-returns-in-Scalar g t c =
    leaf_answered g.Z.SizeSet.holds c.args.arena.now c.build_leaf-in-Scalar.new.arena c.args.pools.now (option_map (λ ts. trees_of ts.now) c.args.fixed) c.args.path.now (node_of c.args.node.now) c.args.keys.now
    c.in_ok-nullable.nullable c.build_leaf-in-Scalar.result c.in_ok-nullable.ensures c.build_leaf-in-Scalar.ensures
