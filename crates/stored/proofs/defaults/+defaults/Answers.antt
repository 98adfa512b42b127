use Rattle.std.proofs.Common.{◌++◌, ◌∙◌, sym, ap, subst}
use Rattle.std.specs.Prelude.{map, codes}
use Rattle.std.proofs.lemmas.Result.{on_ok_weaker}
use Rattle.jtree.specs.Pointer.{name_token}
use Rattle.schema.specs.Document.Places.{map_value, items}
use Rattle.schema.specs.Nodes.View.{node_of}
use Rattle.schema.specs.Rules.Breaks.{reported}
use Rattle.stored.specs.Internal.DefaultList.{defaults_of, AreAdded}
use Rattle.stored.proofs.DefaultLemmas.{added_after, values_token, items_token, added_field, added_more}
use Rattle.stored.proofs.defaults.+defaults.Goals as goal

pub find_bad-returns-in-Map : goal.find_bad-returns-in-Map
find_bad-returns-in-Map t c = rw c.in-Map.is (on_ok_weaker c.find_bad_below.result (added_after _ _ map_value _ _ _ values_token) c.find_bad_below.ensures)

pub find_bad-returns-in-List : goal.find_bad-returns-in-List
find_bad-returns-in-List t c = rw c.in-List.is (on_ok_weaker c.find_bad_below-in-List.result (added_after _ _ items _ _ _ items_token) c.find_bad_below-in-List.ensures)

pub find_bad_below-returns : goal.find_bad_below-returns
find_bad_below-returns t c = on_ok_weaker c.find_bad.result
    (λ a. subst (λ N. AreAdded (c.args.pointer.now ++ name_token c.args.keyword.now) (defaults_of N) (map reported c.args.found.now.items) (map reported c.find_bad.new.found.items)) (ap node_of c.deref.ensures ∙ c.node.view_is)
    (subst (λ text. AreAdded text (defaults_of (node_of c.deref.result.now)) (map reported c.args.found.now.items) (map reported c.find_bad.new.found.items)) (c.as_str.ensures.value ∙ c.in_ok-place.ensures) a))
    c.find_bad.ensures

pub find_bad_field-returns : goal.find_bad_field-returns
find_bad_field-returns t c = on_ok_weaker c.find_bad.result
    (added_field c.args.pointer.now c.args.field.now.name c.as_str-3.result.now c.as_str-4.result.now _ _ _ _ _
    (c.as_str-3.ensures.value ∙ (c.in_ok-place.ensures
    ∙ (ap (λ x. x ++ name_token c.as_str-2.result.now) (c.as_str.ensures.value ∙ c.in_ok-properties.ensures)
    ∙ ap (λ x. (c.args.pointer.now ++ name_token (codes "properties")) ++ name_token x) c.as_str-2.ensures)))
    (c.as_str-4.ensures.value ∙ sym c.as_str-3.ensures.value) c.in_ok-add_bad.ensures)
    c.find_bad.ensures

pub find_bad_fields-loop-field-preserved : goal.find_bad_fields-loop-field-preserved
find_bad_fields-loop-field-preserved t c =
    added_more c.args.pointer.now c.deref-field-items.result.now c.loop-field.field-index c.field-item.result _ _ _ c.loop-field-test.true c.field-item.is c.loop-field.invariant c.in_ok-find_bad_field.ensures
