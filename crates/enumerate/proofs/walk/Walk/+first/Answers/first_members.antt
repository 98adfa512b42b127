use Rattle.std.proofs.lemmas.Result.{on_ok_weaker}
use Rattle.std.proofs.lemmas.List.{length-drop}
use Rattle.std.proofs.Common.{rules, drop, sym, subst, ◌∙◌, arith, ◌≡◌, ◌+◌, ℕ, length}
use Rattle.enumerate.proofs.samples.Following.{continue_out, grown_continues, no_room}
use Rattle.enumerate.proofs.rows.Slots.{no_slots, slot_of, none_at, one_fewer, out_open, out_adds, grown_at}
use Rattle.enumerate.proofs.walks.Costs.{costs_wider}
use Rattle.enumerate.proofs.walk.Walk.+first.Goals.{first_members-else-not-here-via-then-not-here+else-has, first_members-else-not-here-via-else-not-here, first_members-In-Some}
use Rattle.enumerate.specs.Internal.Candidates.{stack_of, used_rows}
use Rattle.enumerate.specs.Internal.Rows.{slots_from, demand_at, CanMeet, IsSlotOf}
use Rattle.enumerate.proofs.walk.Walk.+first.Given.{Over}
use Rattle.enumerate.proofs.walk.Walk.+first.Goals as goal

-- the slot at the place, and those after it
slot_here : (g : Over) (t : ℕ) (c : first_members-In-Some g t) → IsSlotOf c.args.self.now.plan.now c.args.node c.args.place c.in-Some.slot
slot_here g t c = slot_of c.args.self.now.plan.now c.args.node c.args.place c.in-Some.slot c.in-Some.ensures.some c.in-Some.ensures.below c.in-Some.ensures.later c.in-Some.ensures.bit c.in-Some.ensures.followed

fewer_here : (g : Over) (t : ℕ) (c : first_members-In-Some g t) → length (slots_from c.args.self.now.plan.now c.args.node c.args.place) ≡ 1 + length (slots_from c.args.self.now.plan.now c.args.node (c.args.place + 1))
fewer_here g t c = one_fewer c.args.self.now.plan.now c.args.node c.args.place (slot_here g t c).first

pub returns-in_default : goal.first_members-returns-in_default
returns-in_default g t c =
    let q = c.args.self.now.plan.now in
    record {
      ok = none_at q c.args.node c.args.place c.laws_of.ensures.sound (demand_at q c.args.node c.args.ahead.now) c.args.members.now.items c.in_default.ensures.none c.requires.open.can;
      following =
          let i = c.args.node in
          let none = no_slots q i c.args.place c.in_default.ensures.none in
          let d = demand_at q i c.args.ahead.now in
          let empty = no_room q.pools d (subst (λ ss. CanMeet q.pools ss d) none c.requires.open.can.rest) in
          absurd (omega (arith, empty, c.requires.some));
      steps = λ w wide. omega (arith, c.slot.ensures.step);
    }

pub first_members-requires : goal.first_members-first_members-requires
first_members-requires g t c κs within =
    let q = c.args.self.now.plan.now in
    let s = slot_here g t (goal.at.first_members-first_members-requires g t c).In-Some in
    let sound = c.laws_of.ensures.sound in
    let free = sym s.must ∙ c.if-not-here.true in
    let can = ((c.rest.ensures c.args.ahead.now.room).0 (c.has.ensures.0 c.if-has.true)).1 in
    let fewer = fewer_here g t (goal.at.first_members-first_members-requires g t c).In-Some in (
      omega (arith, c.decreases, fewer),
      (within, (c.requires.node, (c.requires.some, record { count = omega (arith, c.requires.open.count); limit = c.requires.open.limit; can = out_open q c.args.node c.args.place sound s.first (demand_at q c.args.node c.args.ahead.now) free can c.requires.open.can }))),
    )

pub returns-then-has : goal.first_members-returns-then-has
returns-then-has g t c =
    let q = c.args.self.now.plan.now in
    let s = slot_here g t (goal.at.first_members-returns-then-has g t c).In-Some in
    let free = sym s.must ∙ c.if-not-here.true in
    record {
      ok =
          let sound = c.laws_of.ensures.sound in
          on_ok_weaker c.first_members.result (λ a. out_adds q c.args.node c.args.place sound s.first (demand_at q c.args.node c.args.ahead.now) c.args.members.now.items c.first_members.new.members.items (omega (arith, c.requires.open.limit, c.laws_of.ensures.limit)) free a)
          c.first_members.ensures.ok;
      following = on_ok_weaker c.first_members.result (λ h. continue_out q c.args.node c.args.place s.first (used_rows c.args.ahead.now.used) (drop (length c.args.members.now.items) c.first_members.new.members.items) (stack_of c.first_members.new.scratch.following.items) free h) c.first_members.ensures.following;
      steps = costs_wider c.args.self.now.plan.now c.args.node c.args.place c.args.meter.now c.slot.new.meter c.args.ahead.now.room c.slot.ensures.step (fewer_here g t (goal.at.first_members-returns-then-has g t c).In-Some) c.first_members.new.meter c.first_members.ensures.steps;
    }

pub grow_members-requires : goal.first_members-grow_members-requires
grow_members-requires g t c κs within =
    let q = c.args.self.now.plan.now in
    let s = slot_here g t (goal.at.first_members-grow_members-requires g t c).In-Some in
    let fewer = fewer_here g t (goal.at.first_members-grow_members-requires g t c).In-Some in
    (omega (arith, c.decreases, fewer), (within, (record { node = c.requires.node.node; row = c.requires.node.sort; within = omega (arith, fewer, length-drop c.args.place (slots_from q c.args.node 0)); slot = s }, c.requires.open)))

pub returns-in_err-grow_members : goal.first_members-returns-in_err-grow_members
returns-in_err-grow_members g t c =
    record { ok = search rules; following = search rules; steps = costs_wider c.args.self.now.plan.now c.args.node c.args.place c.args.meter.now c.slot.new.meter c.args.ahead.now.room c.slot.ensures.step (fewer_here g t (goal.at.first_members-returns-in_err-grow_members g t c).In-Some) c.grow_members.new.meter c.grow_members.ensures.steps }

pub returns : goal.first_members-returns
returns g t c =
    let q = c.args.self.now.plan.now in
    let s = slot_here g t (goal.at.first_members-returns g t c).In-Some in
    record {
      ok =
          let sound = c.laws_of.ensures.sound in
          grown_at q c.args.node c.args.place sound s.first c.in_ok-grow_members.field-0 (demand_at q c.args.node c.args.ahead.now) c.args.members.now.items c.grow_members.new.members.items (omega (arith, c.requires.open.limit, c.laws_of.ensures.limit))
          (λ free can. elim c.else-not-here.branch [
            | first_members-else-not-here-via-then-not-here+else-has w ↦ let yes = w.has.ensures.1 ((w.rest.ensures c.args.ahead.now.room).1 (omega (arith, c.requires.open.limit), can)) in let no = sym yes ∙ w.if-has.false in cc
            | first_members-else-not-here-via-else-not-here w ↦ let yes = w.if-not-here.false in let no = sym yes ∙ s.must ∙ free in cc
          ]) c.requires.open.can c.in_ok-grow_members.ensures.ok;
      following =
          let i = c.args.node in
          let old = c.args.members.now.items in
          let new = c.grow_members.new.members.items in
          grown_continues q i c.args.place s.first c.in_ok-grow_members.field-0 (demand_at q i c.args.ahead.now) old new (drop (length old) new) (stack_of c.grow_members.new.scratch.following.items)
          (λ free can. elim c.else-not-here.branch [
            | first_members-else-not-here-via-then-not-here+else-has w ↦ let yes = w.has.ensures.1 ((w.rest.ensures c.args.ahead.now.room).1 (omega (arith, c.requires.open.limit), can)) in let no = sym yes ∙ w.if-has.false in cc
            | first_members-else-not-here-via-else-not-here w ↦ let yes = w.if-not-here.false in let no = sym yes ∙ s.must ∙ free in cc
          ]) c.requires.open.can.rest c.in_ok-grow_members.ensures.ok c.in_ok-grow_members.ensures.following;
      steps = costs_wider c.args.self.now.plan.now c.args.node c.args.place c.args.meter.now c.slot.new.meter c.args.ahead.now.room c.slot.ensures.step (fewer_here g t (goal.at.first_members-returns g t c).In-Some) c.grow_members.new.meter c.grow_members.ensures.steps;
    }
