use Rattle.std.proofs.Common.{rules, sym, ap, subst, ◌∙◌, arith, ◌≡◌, ◌+◌, ◌-◌, ◌*◌, ℕ}
use Rattle.jtree.specs.Data.{object as object_data}
use Rattle.jtree.specs.Nodes.{members_count}
use Rattle.enumerate.specs.Internal.Candidates.{stack_of, used_rows}
use Rattle.enumerate.specs.Internal.Rows.{slots_from, IsRowSlot}
use Rattle.enumerate.specs.Internal.Following.{GrownContinue}
use Rattle.enumerate.specs.Internal.Walks.{IsWalkedTo, AreWalked, CostsLastFrom}
use Rattle.enumerate.proofs.walks.Costs.{cost_within, walk_cost}
use Rattle.enumerate.proofs.walk.Walk.+next.Goals.{next_members-After-next_at_slot}
use Rattle.enumerate.proofs.samples.Changes.{all_to, if_all}
use Rattle.enumerate.specs.Internal.Changes.{DiffersAfter}
use Rattle.enumerate.proofs.rows.Walks.{kept_nodes, walk_begins}
use Rattle.jtree.specs.View.{members_of}
use Rattle.enumerate.specs.Internal.Steps.{CostsWalk, CostsFrom}
use Rattle.enumerate.proofs.walk.Walk.+next.Given.{Over}
use Rattle.enumerate.proofs.walk.Walk.+next.Goals as goal

-- what it took to the slot, and at it
cost_here : (g : Over) (t : ℕ) (c : next_members-After-next_at_slot g t) → CostsWalk c.args.self.now.plan.now c.args.node c.args.meter.now c.next_at_slot.new.meter (members_count (members_of c.args.members.now.items))
cost_here g t c =
    let q = c.args.self.now.plan.now in
    let l = c.loop-place in
    let nodes = kept_nodes q c.args.node l.place l.removed (used_rows c.args.used.now) c.args.members.now.items l.members.items c.requires.in_slots.0 c.requires.in_slots.1 (l.invariant.walked c.requires.in_slots.0 c.requires.in_slots.1) in
    let at_slot : CostsFrom q c.args.node l.meter c.next_at_slot.new.meter (3 * members_count (members_of l.members.items) + l.removed.room) = λ w wide. omega (arith, c.slot_at-slot.ensures.step, c.next_at_slot.ensures.steps.0 w wide) in
    walk_cost q c.args.node c.args.meter.now l.meter c.next_at_slot.new.meter l.place l.removed.room (members_count (members_of l.members.items)) (members_count (members_of c.args.members.now.items)) nodes l.invariant.steps at_slot

pub loop-place-init : goal.next_members-loop-place-init
loop-place-init g t c =
    let q = c.args.self.now.plan.now in
    let i = c.args.node in
    let sound = c.laws_of.ensures.sound in
    record {
      within = omega (arith, c.slot_count-place.ensures);
      walked = λ gs h. walk_begins q i sound (used_rows c.args.used.now) c.slot_count-place.result _ c.args.members.now.items gs c.slot_count-place.ensures (omega (arith, c.requires.limit, c.laws_of.ensures.limit)) h;
      steps = λ w wide. omega (arith, c.slot_count-place.ensures);
    }

pub next_at_slot-requires : goal.next_members-next_at_slot-requires
next_at_slot-requires g t c κs within =
    let q = c.args.self.now.plan.now in
    let i = c.args.node in
    let used = used_rows c.args.used.now in
    let gs = c.requires.in_slots.0 in
    let back : c.loop-place.place ≡ c.loop-place.place - 1 + 1 = omega (arith, c.loop-place-test.true) in
    let there = c.loop-place.invariant.walked gs c.requires.in_slots.1 in
    let walked = subst (λ n. IsWalkedTo q i n c.loop-place.removed used c.loop-place.members.items gs) back there in
    let nodes = kept_nodes q i c.loop-place.place c.loop-place.removed used c.args.members.now.items c.loop-place.members.items gs c.requires.in_slots.1 there in
    let here : IsRowSlot q (record { node = i; place = c.loop-place.place - 1; slot = c.slot_at-slot.result }) = record {
      node = c.requires.node.node;
      row = c.requires.node.sort;
      within = omega (arith, c.loop-place-test.true, c.loop-place.invariant.within);
      slot = c.slot_at-slot.ensures.slot;
    } in
    (omega (arith, c.decreases), (within, record { here = here; used = c.requires.used; walked = (gs, walked); limit = omega (arith, nodes, c.requires.limit) }))

pub returns-in-Made : goal.next_members-returns-in-Made
returns-in-Made g t c =
    let q = c.args.self.now.plan.now in
    record {
      ok = (
        λ gs h.
            let q = c.args.self.now.plan.now in
            let i = c.args.node in
            let used = used_rows c.args.used.now in
            let back : c.loop-place.place ≡ c.loop-place.place - 1 + 1 = omega (arith, c.loop-place-test.true) in
            let walked = subst (λ n. IsWalkedTo q i n c.loop-place.removed used c.loop-place.members.items gs) back (c.loop-place.invariant.walked gs h) in
            subst (λ st. AreWalked st q i (c.loop-place.place - 1) used c.next_at_slot.new.removed.before c.next_at_slot.new.members.items gs) c.in-Made.is (c.in_ok-depth.ensures.ok.0 gs walked),
        let i = c.args.node in
            let l = c.loop-place in
            let ss = slots_from q i 0 in
            let in_slots = c.requires.in_slots in
            let old = members_of c.args.members.now.items in
            let mid = members_of l.members.items in
            let new = object_data (members_of c.next_at_slot.new.members.items) in
            let there = subst (λ st. DiffersAfter l.removed.room (object_data mid) st new) c.in-Made.is c.in_ok-depth.ensures.ok.1 in
            if_all l.removed.room c.in-Made.depth (object_data old) (object_data mid) new there.0 there.1 (λ empty.
            let w = l.invariant.walked in_slots.0 in_slots.1 in
            let same : mid ≡ old = w.cut.front ∙ (all_to q.pools l.place ss in_slots.0 w.cut.whole.are (w.room_is ∙ empty) ∙ sym in_slots.1.are) in
            ap object_data same),
      );
      following = subst (λ st. GrownContinue st q.pools (slots_from q c.args.node 0) (used_rows c.args.used.now) c.next_at_slot.new.members.items (stack_of c.next_at_slot.new.scratch.following.items)) c.in-Made.is c.in_ok-depth.ensures.following;
      steps = (cost_here g t (goal.at.next_members-returns-in-Made g t c).After-next_at_slot, tt);
    }

pub returns-in_err-depth : goal.next_members-returns-in_err-depth
returns-in_err-depth g t c =
    record { ok = search rules; following = search rules; steps = (cost_here g t (goal.at.next_members-returns-in_err-depth g t c).After-next_at_slot, search rules) }

pub loop-place-preserved : goal.next_members-loop-place-preserved
loop-place-preserved g t c =
    let q = c.args.self.now.plan.now in
    let i = c.args.node in
    let used = used_rows c.args.used.now in
    let l = c.loop-place in
    let back : l.place ≡ l.place - 1 + 1 = omega (arith, c.loop-place-test.true) in
    let last = subst (λ st. CostsLastFrom st q l.removed.room c.slot_at-slot.new.meter c.next_at_slot.new.meter) c.in-Last.is c.in_ok-depth.ensures.steps.1 in
    record {
      within = omega (arith, l.invariant.within);
      walked = λ gs h.
          let walked = subst (λ n. IsWalkedTo q i n l.removed used l.members.items gs) back (l.invariant.walked gs h) in
          subst (λ st. AreWalked st q i (l.place - 1) used c.next_at_slot.new.removed.before c.next_at_slot.new.members.items gs) c.in-Last.is (c.in_ok-depth.ensures.ok.0 gs walked);
      steps = λ w wide. omega (arith, c.loop-place-test.true, c.slot_at-slot.ensures.step, last w wide, l.invariant.steps w wide);
    }

pub returns : goal.next_members-returns
returns g t c =
    let q = c.args.self.now.plan.now in
    let l = c.loop-place in
    let m = members_count (members_of c.args.members.now.items) in
    let nodes = kept_nodes q c.args.node l.place l.removed (used_rows c.args.used.now) c.args.members.now.items l.members.items c.requires.in_slots.0 c.requires.in_slots.1 (l.invariant.walked c.requires.in_slots.0 c.requires.in_slots.1) in
    record {
      ok = (
        λ gs h.
            let none : c.loop-place.place ≡ 0 = omega (arith, c.loop-place-test.false) in
            let walked = subst (λ n. IsWalkedTo c.args.self.now.plan.now c.args.node n c.loop-place.removed (used_rows c.args.used.now) c.loop-place.members.items gs) none (c.loop-place.invariant.walked gs h) in
            (walked.last, walked.room_is),
        tt,
      );
      following = tt;
      steps = (λ w wide. omega (arith, cost_within w (2 * l.removed.room) (3 * m) (omega (arith, nodes)), l.invariant.steps w wide), λ w wide. omega (arith, cost_within w (2 * l.removed.room) (2 * m) (omega (arith, nodes)), l.invariant.steps w wide));
    }
