use Rattle.std.proofs.Common.{◌≡◌, ◌<◌, ◌∙◌, ap, arith, length, subst}
use Rattle.std.specs.Prelude.{Some}
use Rattle.jtree.specs.Path.{item_at}
use Rattle.jtree.specs.View.{data_of, items_of}
use Rattle.stored.specs.Objects.Fault.{items_count}
use Rattle.stored.proofs.CountLemmas.{items_counted}
use Rattle.stored.proofs.RepetitionLemmas.{seen_none, seen_more, item_of}
use Rattle.stored.proofs.repetition.repeats_by_keys.Goals as goal

pub loop-item-init : goal.loop-item-init
loop-item-init c = seen_none c.args.list.now.list_type c.args.list.now.keys.items c.args.items.now c.in_ok-repeated.repeated.items c.new-seen.result c.in_ok-repeated.ensures.items c.new-seen.ensures.empty

pub loop-item-preserved : goal.loop-item-preserved
loop-item-preserved c =
    let L = c.args.list.now in
    let xs = c.deref-item-items.result.now in
    let i = c.loop-item.item-index in
    let x = c.item-item.result in
    let within : i < length xs = omega arith in
    let here : item_at i c.args.items.now ≡ Some (data_of x) = subst (λ ds. item_at i ds ≡ Some (data_of x)) (ap items_of c.deref-item-items.ensures.value ∙ c.items.view_is) (item_of xs i x within c.item-item.is) in
    seen_more L.list_type L.keys.items c.args.items.now i (data_of x) c.loop-item.repeated.items c.push.new.self.items c.in_ok-is_seen.field-0 c.loop-item.seen c.is_seen.new.seen
    here c.in_ok-push.ensures.items c.in_ok-is_seen.ensures.answer c.in_ok-is_seen.ensures.added c.loop-item.invariant

pub returns : goal.returns
returns c =
    let counted : length c.deref-item-items.result.now ≡ items_count c.args.items.now = ap length c.deref-item-items.ensures.value ∙ (items_counted c.items.inside.items.items ∙ ap items_count c.items.view_is) in
    record {
      count = omega (arith, counted, c.loop-item.invariant.count);
      each = λ i b below. c.loop-item.invariant.each i b (omega (arith, counted));
    }
