use Rattle.std.proofs.Common.{◌≡◌, ◌++◌, ◌∷◌, ◌∙◌, ℕ, sym, subst, take, drop, length, arith}
use Rattle.judge.specs.Internal.FaultsByLevel.{slots_of, with_slot, no_value}
use Rattle.judge.proofs.SlotLemmas.{past_more, put_here, not_put, put_last}
use Rattle.judge.proofs.slots.place_of.Goals as goal

pub loop-i-preserved : goal.loop-i-preserved
loop-i-preserved c = past_more c.args.name.now c.args.slots.now c.loop-i.i c.index-slots-i.result (omega arith) c.index-slots-i.is (sym c.cmp.ensures ∙ c.in-Greater.is) c.loop-i.invariant

pub returns-in-Less-clause-some : goal.returns-in-Less-clause-some
returns-in-Less-clause-some c = put_here c.args.name.now c.args.slots.now c.loop-i.i c.index-slots-i.result (omega arith) c.index-slots-i.is (sym c.cmp.ensures ∙ c.in-Less.is) c.loop-i.invariant

pub returns-in-Equal-clause-none : goal.returns-in-Equal-clause-none
returns-in-Equal-clause-none c = λ none. not_put c.args.name.now c.args.slots.now c.loop-i.i c.index-slots-i.result (omega arith) c.index-slots-i.is (sym c.cmp.ensures ∙ c.in-Equal.is) c.loop-i.invariant

pub returns-clause-some : goal.returns-clause-some
returns-clause-some c =
    let k = c.args.name.now in
    let xs = c.args.slots.now in
    let end : c.loop-i.i ≡ length xs = omega arith in
    subst (λ (n : ℕ). with_slot k (slots_of xs) ≡ slots_of (take n xs) ++ (no_value k ∷ slots_of (drop n xs))) end (put_last k xs c.loop-i.i (omega arith) c.loop-i.invariant)
