use Rattle.std.proofs.Common.{◌≡◌, ◌+◌, [], ◌∷◌, ◌++◌, take, Some, inl, ap, sym, ◌∙◌, subst, arith, rules}
use Rattle.std.proofs.lemmas.List.{take_more, take_all}
use Rattle.std.specs.Prelude.{codes}
use Rattle.jtree.specs.Data.{object, AreMembers}
use Rattle.jtree.specs.Path.{member_at, under}
use Rattle.jtree.specs.View.{data_of, members_of}
use Rattle.schema.specs.Rules.Keywords.{texts_under}
use Rattle.schema.specs.Nodes.View.{fields_of}
use Rattle.schema.specs.Internal.NodeOf.{AreFieldsOf, declared_of}
use Rattle.schema.proofs.ShapeLemmas.{has_node, member_named, list_has_items, list_nodes, map_has_values, map_nodes, property_nodes, declared_dropped, push_field, declared_object, fields_ordered}
use Rattle.schema.proofs.NodeLemmas.{under_decreases, member_decreases}
use Rattle.schema.proofs.shaping.+read.Goals as goal

pub read_field-read_node-requires : goal.read_field-read_node-requires
read_field-read_node-requires t c = (omega (arith, c.decreases), c.requires)

pub read_fields-loop-property-init : goal.read_fields-loop-property-init
read_fields-loop-property-init t c = rw c.new-fields.ensures.items tt

pub read_fields-read_field-requires : goal.read_fields-read_field-requires
read_fields-read_field-requires t c =
    let xs = c.deref-property-items.result.now in
    let m = c.property-item.result in
    let ms = c.args.properties.now in
    let whole : members_of xs ≡ ms = ap members_of c.deref-property-items.ensures.value ∙ c.properties.view_is in
    let named : member_at m.name ms ≡ Some (data_of m.tree) =
    subst (λ ns. member_at m.name ns ≡ Some (data_of m.tree)) whole (member_named xs c.loop-property.property-index m (omega arith) c.property-item.is (subst AreMembers (sym whole) c.reveal_invariant.ensures)) in
    let below = member_decreases m.name ms (data_of m.tree) named in
    (omega (arith, below, c.decreases), c.requires m.name (data_of m.tree) named (sym c.if-not-is_declared.ensures))

pub read_fields-loop-property-preserved-then-not-is_declared : goal.read_fields-loop-property-preserved-then-not-is_declared
read_fields-loop-property-preserved-then-not-is_declared t c =
    let root = c.args.root in
    let xs = c.deref-property-items.result.now in
    let i = c.loop-property.property-index in
    let m = c.property-item.result in
    let names = texts_under (data_of c.args.schema.now) (codes "required") in
    let more : members_of (take (i + 1) xs) ≡ members_of (take i xs ++ m ∷ []) = ap members_of (take_more xs i m (omega arith) ∙ ap (λ x. take i xs ++ x ∷ []) (sym c.property-item.is)) in
    let same = ap (declared_of root) more ∙ declared_dropped root (take i xs) m (sym c.if-not-is_declared.ensures) in
    subst (AreFieldsOf c.args.profile (fields_of c.loop-property.fields.items) names) (sym same) c.loop-property.invariant

pub read_fields-loop-property-preserved : goal.read_fields-loop-property-preserved
read_fields-loop-property-preserved t c =
    let root = c.args.root in
    let xs = c.deref-property-items.result.now in
    let i = c.loop-property.property-index in
    let m = c.property-item.result in
    let f = c.in_ok-read_field.field-0 in
    let names = texts_under (data_of c.args.schema.now) (codes "required") in
    let old = c.loop-property.fields.items in
    let more : members_of (take (i + 1) xs) ≡ members_of (take i xs ++ m ∷ []) = ap members_of (take_more xs i m (omega arith) ∙ ap (λ x. take i xs ++ x ∷ []) (sym c.property-item.is)) in
    let pushed : c.push.new.self.items ≡ old ++ f ∷ [] = c.in_ok-push.ensures.items in
    let is = c.in_ok-read_field.ensures in
    rw (pushed, more) (push_field c.args.profile root old f names (take i xs) m (sym c.if-not-is_declared.ensures) c.loop-property.invariant is.name is.node is.required is.default)

pub read_properties-read_fields-requires : goal.read_properties-read_fields-requires
read_properties-read_fields-requires t c =
    let s = data_of c.args.schema.now in
    let ms = c.in-Some-Object.properties in
    let at : under s (codes "properties") ≡ Some (object ms) = sym c.in-Some-Object.ensures ∙ ap (λ x. Some (data_of x)) c.in-Some-Object.field-0-is in
    let below = under_decreases s (codes "properties") (object ms) at in
    (omega (arith, below, c.decreases), property_nodes c.args.profile c.args.root s ms c.requires at)

pub read_fields-invariant_of-result : goal.read_fields-invariant_of-result
read_fields-invariant_of-result t c =
    let root = c.args.root in
    let xs = c.deref-property-items.result.now in
    let i = c.loop-property.property-index in
    let all : take i xs ≡ xs = take_all i xs (omega arith) in
    let whole : members_of (take i xs) ≡ c.args.properties.now = ap members_of all ∙ ap members_of c.deref-property-items.ensures.value ∙ c.properties.view_is in
    fields_ordered c.args.profile (fields_of c.loop-property.fields.items) (texts_under (data_of c.args.schema.now) (codes "required")) (declared_of root (members_of (take i xs)))
    c.loop-property.invariant (declared_object root (members_of (take i xs)) (subst AreMembers (sym whole) c.reveal_invariant.ensures))

pub read_fields-returns : goal.read_fields-returns
read_fields-returns t c =
    let root = c.args.root in
    let xs = c.deref-property-items.result.now in
    let i = c.loop-property.property-index in
    let all : take i xs ≡ xs = take_all i xs (omega arith) in
    let whole : members_of (take i xs) ≡ c.args.properties.now = ap members_of all ∙ ap members_of c.deref-property-items.ensures.value ∙ c.properties.view_is in
    subst (λ ms. AreFieldsOf c.args.profile (fields_of c.loop-property.fields.items) (texts_under (data_of c.args.schema.now) (codes "required")) (declared_of root ms)) whole c.loop-property.invariant

pub read_object-returns : goal.read_object-returns
read_object-returns t c = (c.requires.kind, search rules, search rules)

pub read_list-read_below-requires : goal.read_list-read_below-requires
read_list-read_below-requires t c =
    let s = data_of c.args.schema.now in
    let d = data_of c.in-Some.below.now in
    let below = under_decreases s (codes "items") d (sym c.in-Some.ensures) in
    (omega (arith, below, c.decreases), list_nodes c.args.profile c.args.root s d c.requires.nodes c.requires.kind (sym c.in-Some.ensures))

pub read_list-unreachable-requires : goal.read_list-unreachable-requires
read_list-unreachable-requires t c = list_has_items c.args.profile c.args.root (data_of c.args.schema.now) c.requires.nodes c.requires.kind (sym c.in-None.ensures)

pub read_map-read_below-requires : goal.read_map-read_below-requires
read_map-read_below-requires t c =
    let s = data_of c.args.schema.now in
    let d = data_of c.in-Some.below.now in
    let below = under_decreases s (codes "additionalProperties") d (sym c.in-Some.ensures) in
    (omega (arith, below, c.decreases), map_nodes c.args.profile c.args.root s d c.requires.nodes c.requires.kind (sym c.in-Some.ensures))

pub read_map-unreachable-requires : goal.read_map-unreachable-requires
read_map-unreachable-requires t c = map_has_values c.args.profile (data_of c.args.schema.now) c.requires.kind (sym c.in-None.ensures)

pub read_sort-unreachable-requires : goal.read_sort-unreachable-requires
read_sort-unreachable-requires t c = has_node c.args.profile c.args.root (data_of c.args.schema.now) c.requires (inl (sym c.in-None.ensures))
