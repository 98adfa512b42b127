use Rattle.std.proofs.lemmas.Result.{on_ok_weaker}
use Rattle.std.proofs.lemmas.List.{drop_at}
use Rattle.std.proofs.Common.{◌∷◌, drop, refl, sym, ap, subst, ◌∙◌, arith, ◌≡◌, ◌+◌, [], length, List}
use Rattle.enumerate.specs.Internal.Following.{MembersContinue}
use Rattle.enumerate.proofs.samples.Following.{on_both, continue_here, continue_in, put_after}
use Rattle.enumerate.proofs.rows.Slots.{filled_at, keys_at, adds_nothing}
use Rattle.plan.specs.Samples.Sizes.{CanFill, Before, filled}
use Rattle.enumerate.specs.Internal.Candidates.{agreeing_if, stack_of, rows_of, used_rows}
use Rattle.jtree.specs.View.{data_of}
use Rattle.enumerate.specs.Internal.Rows.{slots_at, slots_after, ending_at, Demand, demand_past, IsOpen, IsSlotOf, AddsFirst}
use Rattle.enumerate.specs.declared.row.RowSlot.{RowSlot}
use Rattle.enumerate.specs.declared.row.Ahead.{Ahead}
use Rattle.plan.specs.Samples.Question.{Question}
use Rattle.jtree.specs.Data.{Data}
use Rattle.enumerate.proofs.walk.Walk.+first.Goals as goal

-- what is asked of the slots after the member, as the call is told
asked_past : (q : Question) (t : RowSlot) (v : Data) (a : Ahead) (x : Before) (used : List Data) → IsSlotOf q t.node t.place t.slot → x ≡ filled t.slot.bit a.before → used ≡ agreeing_if t.slot.key t.slot.name.now v (used_rows a.used)
    → demand_past q t v a ≡ record { ending = ending_at q t.node; before = x; room = a.room; used = used }
asked_past q t v a x used slot state same = λ k. record {
  ending = ending_at q t.node;
  before = sym (filled_at q t.node t.place t.slot a.before x slot state) k;
  room = a.room;
  used = sym (same ∙ (λ i. agreeing_if (slot.key i) (slot.name i) v (used_rows a.used))) k;
}

pub first_members-requires : goal.put_member-first_members-requires
first_members-requires g t c κs within =
    let q = c.args.self.now.plan.now in
    let here = c.args.here.now in
    let count = ap (λ (x : Before). x.count) c.fill.ensures in
    let can = subst (IsOpen q.pools (slots_after q here)) (asked_past q here (data_of c.args.member.tree) c.args.ahead.now c.fill.result (rows_of c.as_slice.result.now) c.requires.here.slot c.fill.ensures (ap rows_of c.as_slice.ensures.value ∙ c.in_ok-same.ensures)) c.requires.ahead.can in
    (omega (arith, c.decreases), (within, (record { node = c.requires.here.node; sort = c.requires.here.row }, (omega (arith, c.if-ahead-eq0.false), record { count = omega (arith, c.requires.ahead.count, count); limit = omega (arith, c.requires.ahead.limit, count); can = can }))))

pub returns : goal.put_member-returns
returns g t c =
    let q = c.args.self.now.plan.now in
    let here = c.args.here.now in
    let one = c.args.member in
    let pushed = c.push-2.new.self.items in
    let new = c.first_members.new.members.items in
    let asked = asked_past q here (data_of c.args.member.tree) c.args.ahead.now c.fill.result (rows_of c.as_slice.result.now) c.requires.here.slot c.fill.ensures (ap rows_of c.as_slice.ensures.value ∙ c.in_ok-same.ensures) in
    record {
      ok = on_ok_weaker c.first_members.result (λ a. subst (λ l. AddsFirst q.pools (slots_after q here) (demand_past q here (data_of one.tree) c.args.ahead.now) l new) c.in_ok-push-2.ensures.items (subst (λ d. AddsFirst q.pools (slots_after q here) d pushed new) (sym asked) a)) c.first_members.ensures.ok;
      following =
          let used = used_rows c.args.ahead.now.used in
          let cs = stack_of c.first_members.new.scratch.following.items in
          on_both c.first_members.result (λ a h.
          let put = put_after c.args.members.now.items pushed new a.added one c.in_ok-push-2.ensures.items a.is in
          let after = subst (λ (d : Demand). MembersContinue q.pools (slots_after q here) d.used (drop (length pushed) new) cs) (sym asked) h in
          subst (λ ms. MembersContinue q.pools (slots_at q here) used ms cs) (sym put) (continue_in q here.node here.place c.requires.here.slot.first used one (drop (length pushed) new) cs c.requires.name c.requires.part after)) c.first_members.ensures.ok c.first_members.ensures.following;
      steps = c.first_members.ensures.steps;
    }

pub returns-then-ahead-eq0 : goal.put_member-returns-then-ahead-eq0
returns-then-ahead-eq0 g t c =
    let q = c.args.self.now.plan.now in
    let here = c.args.here.now in
    let one = c.args.member in
    let d = demand_past q here (data_of one.tree) c.args.ahead.now in
    let none : c.args.ahead.now.room ≡ 0 = omega (arith, c.if-ahead-eq0.true) in
    record {
      ok = subst (λ old. AddsFirst q.pools (slots_after q here) d old c.push.new.self.items) c.in_ok-push.ensures.items (adds_nothing q.pools (slots_after q here) d c.push.new.self.items (keys_at q here.node (here.place + 1) c.laws_of.ensures.sound) none c.requires.ahead.can);
      following =
          let old = c.args.members.now.items in
          let cs = stack_of c.args.scratch.now.following.items in
          let can = subst (λ m. CanFill q.pools (slots_after q here) d.ending d.before m) none c.requires.ahead.can.rest in
          let put : drop (length old) c.push.new.self.items ≡ one ∷ [] = ap (drop (length old)) c.in_ok-push.ensures.items ∙ drop_at old (one ∷ []) (length old) refl in
          subst (λ ms. MembersContinue q.pools (slots_at q here) (used_rows c.args.ahead.now.used) ms cs) (sym put)
          (continue_here q here.node here.place c.requires.here.slot.first d.before (used_rows c.args.ahead.now.used) one cs c.requires.name c.requires.part can c.requires.following);
      steps = λ w wide. omega arith;
    }
