use Rattle.std.proofs.Common.{rules, sym, ap, subst, ◌∙◌, arith, ◌≡◌, ◌+◌, ◌*◌, ℕ, List, length, drop, Option}
use Rattle.std.proofs.lemmas.List.{length-drop}
use Rattle.jtree.specs.Data.{Data}
use Rattle.jtree.specs.Data.{object as object_data}
use Rattle.jtree.specs.Nodes.{node_count, members_count}
use Rattle.jtree.specs.declared.value.Member.{Member}
use Rattle.enumerate.specs.Internal.Candidates.{stack_of, used_rows}
use Rattle.enumerate.specs.Internal.Changes.{DiffersAfter}
use Rattle.plan.specs.Samples.Sizes.{nothing}
use Rattle.enumerate.specs.Internal.Rows.{slots_from, slots_at, slot_in, Demand, demand_at}
use Rattle.enumerate.specs.declared.row.Ahead.{Ahead}
use Rattle.enumerate.specs.declared.siblings.Rows.{Rows}
use Rattle.enumerate.specs.Internal.Following.{GrownContinueAt}
use Rattle.enumerate.specs.Internal.Walks.{demand_from, IsWalkedTo}
use Rattle.enumerate.specs.Internal.Moves.{AreLastAfter, ahead_with, demand_of, WasAt}
use Rattle.enumerate.specs.Internal.Prefixes.{agreeing_rows, EndsIn}
use Rattle.enumerate.proofs.walks.Costs.{last_removed, removes_all, cost_within}
use Rattle.enumerate.proofs.walk.Walk.+next.Goals.{next_filled_slot-In_ok-prefix, next_filled_slot-In-Some}
use Rattle.enumerate.proofs.prefixes.Lemmas.{before_plain}
use Rattle.enumerate.proofs.rows.Walks.{fewer_members, members_pushed, last_named, some_last, asked_is, walked_continue, walked_member, walked_key, IsRemoved, removed, ready, so_many, few_at}
use Rattle.enumerate.proofs.samples.Following.{if_both}
use Rattle.enumerate.proofs.rows.Slots.{one_fewer}
use Rattle.jtree.specs.View.{data_of, members_of}
use Rattle.enumerate.proofs.walk.Walk.+next.Given.{Over}
use Rattle.enumerate.proofs.walk.Walk.+next.Goals as goal

-- the member that is removed
named : (g : Over) (t : ℕ) (c : next_filled_slot-In-Some g t) → c.in-Some.member.name ≡ (slot_in c.args.self.now.plan.now c.args.here.now.node c.args.here.now.place).name
named g t c =
    let name = (slot_in c.args.self.now.plan.now c.args.here.now.node c.args.here.now.place).name in
    last_named c.pop.new.self.items c.in-Some.member name (subst (EndsIn name) c.in-Some.ensures.items c.requires.filled)

nodes_here : (g : Over) (t : ℕ) (c : next_filled_slot-In-Some g t) → members_count (members_of c.args.members.now.items) ≡ members_count (members_of c.pop.new.self.items) + node_count (data_of c.in-Some.member.tree)
nodes_here g t c = ap (λ l. members_count (members_of l)) c.in-Some.ensures.items ∙ members_pushed c.pop.new.self.items c.in-Some.member

off_here : (g : Over) (t : ℕ) (c : next_filled_slot-In-Some g t) (gs : List (Option Data)) → IsWalkedTo c.args.self.now.plan.now c.args.here.now.node (c.args.here.now.place + 1) c.args.removed.now (used_rows c.args.used.now) c.args.members.now.items gs
    → IsRemoved c.args.self.now.plan.now c.args.here.now.node c.laws_of.ensures.sound (used_rows c.args.used.now) c.args.here.now.place c.requires.reached.here.slot.first c.args.removed.now c.pop.new.self.items c.in-Some.member gs
off_here g t c gs w =
    let q = c.args.self.now.plan.now in
    let here = c.args.here.now in
    let there = subst (λ l. IsWalkedTo q here.node (here.place + 1) c.args.removed.now (used_rows c.args.used.now) l gs) c.in-Some.ensures.items w in
    removed q here.node c.laws_of.ensures.sound (used_rows c.args.used.now) here.place c.requires.reached.here.slot.first c.args.removed.now c.pop.new.self.items c.in-Some.member gs c.requires.reached.used there (named g t c)

-- with the member, it is what was removed
ahead_is : (g : Over) (t : ℕ) (c : next_filled_slot-In_ok-prefix g t) (gs : List (Option Data)) → IsWalkedTo c.args.self.now.plan.now c.args.here.now.node (c.args.here.now.place + 1) c.args.removed.now (used_rows c.args.used.now) c.args.members.now.items gs
    → IsRemoved c.args.self.now.plan.now c.args.here.now.node c.laws_of.ensures.sound (used_rows c.args.used.now) c.args.here.now.place c.requires.reached.here.slot.first c.args.removed.now c.pop.new.self.items c.in-Some.member gs
    → (rows : Rows) → used_rows rows ≡ agreeing_rows c.in_ok-prefix.prefix.agreeing (used_rows c.args.used.now)
    → demand_at c.args.self.now.plan.now c.args.here.now.node (ahead_with (record { before = c.in_ok-prefix.prefix.before; room = c.args.removed.now.room; used = rows }) c.in-Some.member)
    ≡ demand_from c.args.here.now.place (slots_from c.args.self.now.plan.now c.args.here.now.node 0) gs (demand_of c.args.self.now.plan.now c.args.here.now.node (used_rows c.args.used.now) gs)
ahead_is g t c gs w off rows same =
    let prefix = c.in_ok-prefix.ensures.prefix gs w.cut.whole.are (ap members_of c.as_slice.ensures.value ∙ off.cut.front) in
    asked_is c.args.self.now.plan.now c.args.here.now.node c.laws_of.ensures.sound (used_rows c.args.used.now) c.args.here.now.place c.requires.reached.here.slot.first (ahead_with (record { before = c.in_ok-prefix.prefix.before; room = c.args.removed.now.room; used = rows }) c.in-Some.member) gs prefix.before off.room_is (same ∙ prefix.rows)

pub unreachable-requires : goal.next_filled_slot-unreachable-requires
unreachable-requires g t c =
    let q = c.args.self.now.plan.now in
    let here = c.args.here.now in
    some_last c.args.members.now.items (slot_in q here.node here.place).name (omega (arith, (rw c.in_default.is at c.pop.ensures.cases).0, c.args.members.now.ok.0)) c.requires.filled

pub overflow_cast-len : goal.next_filled_slot-overflow_cast-len
overflow_cast-len g t c =
    omega (arith, fewer_members c.pop.new.self.items, nodes_here g t (goal.at.next_filled_slot-overflow_cast-len g t c).In-Some, c.requires.reached.limit, c.laws_of.ensures.limit, c.len.ensures, c.pop.new.self.ok.0)

pub returns-then-is_last_key : goal.next_filled_slot-returns-then-is_last_key
returns-then-is_last_key g t c =
    let q = c.args.self.now.plan.now in
    let here = c.args.here.now in
    let members = c.pop.new.self.items in
    let plain = c.is_last_key.ensures.plain c.if-is_last_key.true in
    let count : c.len.result ≡ 0 + length members = omega (arith, c.len.ensures, c.pop.new.self.ok.0) in
    record {
      ok = (
        λ gs w.
            let off = off_here g t (goal.at.next_filled_slot-returns-then-is_last_key g t c).In-Some gs w in
            let is = c.unnamed-removed.ensures ∙ ap (λ n. record { count = n; seen = 0 }) count ∙ sym (before_plain here.place (slots_from q here.node 0) gs nothing members plain off.cut.front) in
            walked_key q here.node c.laws_of.ensures.sound (used_rows c.args.used.now) here.place c.requires.reached.here.slot.first c.args.removed.now members c.in-Some.member gs c.unnamed-removed.result off is (c.is_last_key.ensures.key c.if-is_last_key.true) (c.is_last_key.ensures.none c.if-is_last_key.true),
        tt,
      );
      following = tt;
      steps = search rules;
    }

pub prefix_at-requires : goal.next_filled_slot-prefix_at-requires
prefix_at-requires g t c =
    record { node = record { node = c.requires.reached.here.node; sort = c.requires.reached.here.row }; place = omega (arith, c.requires.reached.here.within); limit = omega (arith, ap (λ (l : List Member). length l) c.as_slice.ensures.value, fewer_members c.pop.new.self.items, nodes_here g t (goal.at.next_filled_slot-prefix_at-requires g t c).In-Some, c.requires.reached.limit) }

pub next_member-requires : goal.next_filled_slot-next_member-requires
next_member-requires g t c κs within =
    let q = c.args.self.now.plan.now in
    let here = c.args.here.now in
    let gs = c.requires.reached.walked.0 in
    let w = c.requires.reached.walked.1 in
    let sound = c.laws_of.ensures.sound in
    let used = used_rows c.args.used.now in
    let members = c.pop.new.self.items in
    let one = c.in-Some.member in
    let a : Ahead = record { before = c.in_ok-prefix.prefix.before; room = c.args.removed.now.room; used = c.rows.result } in
    let there = (goal.at.next_filled_slot-next_member-requires g t c).In-Some in
    let off = off_here g t there gs w in
    let is = ahead_is g t (goal.at.next_filled_slot-next_member-requires g t c).In_ok-prefix gs w off c.rows.result c.rows.ensures in
    let count : a.before.count ≡ length members = ap (λ (d : Demand). d.before.count) is ∙ so_many q here.node sound used here.place gs members off.cut.front in
    let can = ready q here.node sound used here.place c.requires.reached.here.slot.first c.args.removed.now members one gs (demand_at q here.node (ahead_with a one)) off is in
    let was : WasAt q here a members one = record {
      before = sym count;
      name = named g t there;
      value = can.value;
      rest = can.rest;
      slots = record { count = omega (arith, count, few_at here.place (slots_from q here.node 0) gs members off.cut.front); limit = omega (arith, count, fewer_members members, nodes_here g t there, c.requires.reached.limit); can = can.can };
    } in
    (omega (arith, c.decreases), (within, (c.requires.reached.here, was)))

pub returns : goal.next_filled_slot-returns
returns g t c =
    let q = c.args.self.now.plan.now in
    let here = c.args.here.now in
    let sound = c.laws_of.ensures.sound in
    let first = c.requires.reached.here.slot.first in
    let used = used_rows c.args.used.now in
    let members = c.pop.new.self.items in
    let one = c.in-Some.member in
    let new = c.next_member.new.members.items in
    let a : Ahead = record { before = c.in_ok-prefix.prefix.before; room = c.args.removed.now.room; used = c.rows.result } in
    let d = demand_at q here.node (ahead_with a one) in
    let l = (goal.at.next_filled_slot-returns g t c).In-Some in
    let p = (goal.at.next_filled_slot-returns g t c).In_ok-prefix in
    let gs = c.requires.reached.walked.0 in
    let w = c.requires.reached.walked.1 in
    let off = off_here g t l gs w in
    let is = ahead_is g t p gs w off c.rows.result c.rows.ensures in
    let all = members_count (members_of c.args.members.now.items) in
    record {
      ok = if_both c.next_member.result _ _ _ (λ st h left. (
        λ us v.
            let o = off_here g t l us v in
            walked_member q here.node sound used here.place first st d members new one us o (ahead_is g t p us v o c.rows.result c.rows.ensures) left h.0,
        subst (λ m. DiffersAfter a.room (object_data (members_of m)) st (object_data (members_of new))) (sym c.in-Some.ensures.items) h.1,
      )) c.next_member.ensures.ok c.next_member.ensures.left;
      following = if_both c.next_member.result _ _ _ (λ st h left. walked_continue q here.node sound used here.place first st members new gs (stack_of c.next_member.new.scratch.following.items) off.cut left
          (subst (λ (e : Demand). GrownContinueAt st q here e.used (drop e.before.count new) (stack_of c.next_member.new.scratch.following.items)) is h)) c.next_member.ensures.following c.next_member.ensures.left;
      steps = (
        λ u wide. omega (arith, cost_within u (3 * node_count (data_of one.tree) + a.room) (3 * all + a.room) (omega (arith, nodes_here g t l)), c.is_last_key.ensures.steps, one_fewer q here.node here.place first, length-drop here.place (slots_from q here.node 0), c.requires.reached.here.within, c.in_ok-prefix.ensures.steps, c.next_member.ensures.steps.0 u wide),
        if_both c.next_member.result _ _ _ (λ st h cost.
            let hs = drop here.place gs in
            let ended = subst (λ e. AreLastAfter q here.node here.place e one off.after hs) (sym is) off.ended in
            last_removed q here c.requires.reached.here st (data_of one.tree) a.room c.args.meter.now c.prefix_at.new.meter c.next_member.new.meter (omega (arith, c.in_ok-prefix.ensures.steps, c.is_last_key.ensures.steps))
            (removes_all st q.pools (slots_at q here) d hs (drop a.before.count new) (h.0 hs off.after ended)) cost) c.next_member.ensures.ok c.next_member.ensures.steps.1,
      );
    }
