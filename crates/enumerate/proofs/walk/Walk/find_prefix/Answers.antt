use Rattle.std.proofs.Common.{◌≡◌, ◌∙◌, ◌+◌, ◌-◌, List, Option, ap, sym, subst, arith, drop}
use Rattle.jtree.specs.Data.{Data}
use Rattle.jtree.specs.View.{data_of, members_of}
use Rattle.jtree.specs.declared.value.Member.{Member}
use Rattle.plan.specs.Samples.Sizes.{Before, filled, nothing}
use Rattle.enumerate.specs.Internal.Candidates.{used_rows, agreeing_if}
use Rattle.enumerate.specs.Internal.Moves.{Begins}
use Rattle.enumerate.specs.Internal.Prefixes.{before_at, used_at, agreeing_rows}
use Rattle.enumerate.specs.Internal.Rows.{slots_from, slot_in, still_used}
use Rattle.enumerate.specs.declared.prefix.Prefix.{Prefix}
use Rattle.enumerate.proofs.prefixes.Lemmas.{IsLeft, passed_out, passed_in}
use Rattle.enumerate.proofs.rows.Cuts.{begins_at, begins_within, member_here, at_count}
use Rattle.enumerate.proofs.rows.Slots.{slot_of}
use Rattle.enumerate.proofs.walk.Walk.find_prefix.Goals as goal
use Rattle.enumerate.proofs.walk.Walk.find_prefix.Goals.{then-begins+in_ok-prefix, else-begins}

pub loop-earlier-preserved : goal.loop-earlier-preserved
loop-earlier-preserved g c =
    let q = c.args.self.now.plan.now in
    let i = c.args.node in
    let place = c.args.place in
    let earlier = c.loop-earlier.earlier in
    let ss = slots_from q i 0 in
    let members = c.args.members.now in
    let used = used_rows c.args.used.now in
    let old = c.loop-earlier.prefix in
    let slot = c.in-Some.slot in
    let s = slot_of q i earlier slot c.in-Some.ensures.some c.in-Some.ensures.below c.in-Some.ensures.later c.in-Some.ensures.bit c.in-Some.ensures.followed in
    let here = slot_in q i earlier in
    let Left = λ (gs : List (Option Data)) (x : Before) (rows : List Data). IsLeft q.pools (place - (earlier + 1)) (slots_from q i (earlier + 1)) (drop (earlier + 1) gs) (members_of (drop x.count members)) x (before_at place ss gs nothing) rows (used_at place ss gs used) in
    elim c.if-begins.branch [
      | then-begins+in_ok-prefix w ↦
          let one = w.index-members-next.result in
          let prefix = w.in_ok-prefix.prefix in
          let begin = begins_at slot.name.now members c.count-next.ensures (c.begins.ensures.0 w.if-begins.true) in
          let there = member_here slot.name.now old.before.count members one begin (at_count members one c.count-next.ensures w.index-members-next.is) in
          let name : one.name ≡ here.name = subst (λ ms. Begins slot.name.now (members_of ms)) there begin ∙ s.name in
          let state : prefix.before ≡ filled here.bit old.before = w.in_ok-prefix.ensures.before ∙ ap (λ b. filled b old.before) s.bit in
          let rows : agreeing_rows prefix.agreeing used ≡ still_used here (data_of one.tree) (agreeing_rows old.agreeing used) = w.in_ok-prefix.ensures.rows ∙ (ap (λ (m : Member). agreeing_if slot.key slot.name.now (data_of m.tree) (agreeing_rows old.agreeing used)) (sym w.index-members-next.is) ∙ (λ k. agreeing_if (s.key k) (s.name k) (data_of one.tree) (agreeing_rows old.agreeing used))) in
          let more : c.if-begins.prefix.before.count ≡ old.before.count + 1 = ap (λ (f : Prefix). f.before.count) w.prefix-is ∙ ap (λ (x : Before). x.count) state in
          record {
            left = λ gs fit are.
                let l = c.loop-earlier.invariant.left gs fit are in
                let passed = passed_in q i earlier place s.first (omega (arith, c.loop-earlier-test.true)) gs old.before (before_at place ss gs nothing) (agreeing_rows old.agreeing used) (used_at place ss gs used) one (drop (old.before.count + 1) members)
                (subst (λ ms. IsLeft q.pools (place - earlier) (slots_from q i earlier) (drop earlier gs) (members_of ms) old.before (before_at place ss gs nothing) (agreeing_rows old.agreeing used) (used_at place ss gs used)) there l) name in
                subst (λ (f : Prefix). Left gs f.before (agreeing_rows f.agreeing used)) (sym w.prefix-is) (subst (λ x. Left gs x (agreeing_rows prefix.agreeing used)) (sym state) (subst (Left gs (filled here.bit old.before)) (sym rows) passed));
            within = omega (arith, more, begins_within slot.name.now members old.before.count begin);
            few = omega (arith, more, c.loop-earlier.invariant.few);
            steps = omega (arith, c.slot.ensures.step, c.loop-earlier.invariant.steps);
          }
      | else-begins w ↦
          let same : c.if-begins.prefix.before.count ≡ old.before.count = ap (λ (f : Prefix). f.before.count) w.prefix-is in
          record {
            left = λ gs fit are.
                let l = c.loop-earlier.invariant.left gs fit are in
                let passed = passed_out q i earlier place s.first (omega (arith, c.loop-earlier-test.true)) gs old.before (before_at place ss gs nothing) (agreeing_rows old.agreeing used) (used_at place ss gs used) (members_of (drop old.before.count members)) l
                (λ b. let yes = c.begins.ensures.1 (subst (λ n. Begins slot.name.now (members_of (drop n members))) (sym c.count-next.ensures) (subst (λ k. Begins k (members_of (drop old.before.count members))) (sym s.name) b)) in let no = w.if-begins.false in cc) in
                subst (λ (f : Prefix). Left gs f.before (agreeing_rows f.agreeing used)) (sym w.prefix-is) passed;
            within = omega (arith, same, c.loop-earlier.invariant.within);
            few = omega (arith, same, c.loop-earlier.invariant.few);
            steps = omega (arith, c.slot.ensures.step, c.loop-earlier.invariant.steps);
          }
    ]
