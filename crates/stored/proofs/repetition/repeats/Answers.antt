use Rattle.std.proofs.Common.{◌≡◌, ◌∙◌, ap, sym, arith, get_or, Bool, false, replicate}
use Rattle.std.proofs.lemmas.List.{get_or-replicate}
use Rattle.std.proofs.lemmas.Result.{IfOk-weaker}
use Rattle.stored.specs.Objects.Fault.{are_alike}
use Rattle.stored.proofs.AscendingLemmas.{ordered_apart}
use Rattle.stored.proofs.ValidLemmas.{no_repeat}
use Rattle.stored.proofs.repetition.repeats.Goals as goal

pub returns-then-are_ordered-clause-each : goal.returns-then-are_ordered-clause-each
returns-then-are_ordered-clause-each c =
    let L = c.args.list.now in
    let ds = c.args.items.now in
    let apart = ordered_apart L.list_type L.keys.items ds (sym c.are_ordered.ensures ∙ c.if-are_ordered.true) in
    IfOk-weaker c.vec.result (λ v. ((y : Bool) → y ≡ false → y ≡ false) → v.items ≡ replicate c.items_count.result false) _
    (λ v all i b below. ap (λ bs. get_or bs i b) (all (λ y same. same)) ∙ (get_or-replicate c.items_count.result i false b (omega (arith, c.items_count.ensures)) ∙ sym (no_repeat (are_alike L.list_type L.keys.items) ds i apart)))
    c.vec.ensures.items_if_clones_equal
