use Rattle.enumerate.specs.Internal.Following.{Continue}
use Rattle.enumerate.specs.Internal.Rows.{IsValue, demand_at, slots_from, slot_in}
use Rattle.enumerate.proofs.walks.Costs.{part_within, costs_slots, costs_both_slots}
use Rattle.plan.specs.Samples.Sizes.{HasSize}
use Rattle.enumerate.proofs.rows.Slots.{after_open}
use Rattle.std.proofs.Common.{rules, refl, sym, subst, ◌∙◌, arith, ◌+◌, ◌≤◌}
use Rattle.enumerate.proofs.lists.Lemmas.{some_nodes}
use Rattle.jtree.specs.View.{data_of}
use Rattle.enumerate.specs.Internal.Candidates.{stack_of, used_rows}
use Rattle.enumerate.proofs.walk.Walk.+first.Goals as goal

pub returns-in_default : goal.grow_members-returns-in_default
returns-in_default g t c =
    record {
      ok = (refl, c.in_default.ensures, refl);
      following = tt;
      steps = λ w wide. omega arith;
      last = refl;
    }

pub first_value-requires : goal.grow_members-first_value-requires
first_value-requires g t c κs within =
    let sum = c.in-Some.ensures.1.1.1.1 in
    (omega (arith, c.decreases), (within, record { here = c.requires.here; size = subst (λ s. HasSize c.args.self.now.plan.now.pools s c.in-Some.size) (sym c.requires.here.slot.node) c.in-Some.ensures.1.0; limit = omega (arith, sum, c.requires.open.limit); known = c.requires.open.can.known; free = c.requires.open.can.free }))

pub put_member-requires : goal.grow_members-put_member-requires
put_member-requires g t c κs within =
    let q = c.args.self.now.plan.now in
    let sound = c.laws_of.ensures.sound in
    let value = c.in_ok-tree.ensures.ok.is in
    let some : 1 ≤ c.in-Some.size = omega (arith, some_nodes (data_of c.in_ok-tree.tree), value.nodes_are) in
    let few : c.in-Some.size ≤ c.args.ahead.now.room = omega (arith, c.in-Some.ensures.1.1.1.1) in (
      omega (arith, c.decreases),
      (
        within,
        record {
          here = c.requires.here;
          name = c.in_ok-name.ensures ∙ c.requires.here.slot.name;
          part = value.part;
          following =
              subst (λ n. Continue (IsValue q.pools (slot_in q c.args.here.now.node c.args.here.now.place) (slots_from q c.args.here.now.node (c.args.here.now.place + 1)) (used_rows c.args.ahead.now.used) n) (data_of c.in_ok-tree.tree) (stack_of c.first_value.new.scratch.following.items)) (sym value.nodes_are) c.in_ok-tree.ensures.following;
          ahead =
              record {
                count = c.requires.open.count;
                limit = omega (arith, c.requires.open.limit, some, few);
                can = after_open q c.args.here.now.node c.args.here.now.place sound c.requires.here.slot.first (demand_at q c.args.here.now.node c.args.ahead.now) c.in-Some.size (data_of c.in_ok-tree.tree) c.requires.open.can.known c.in-Some.ensures.1 value;
              };
        },
      ),
    )

pub returns : goal.grow_members-returns
returns g t c =
    record {
      ok = (
        record {
          size = c.in-Some.size;
          one = record { name = c.in_ok-name.name; tree = c.in_ok-tree.tree };
          name = c.in_ok-name.ensures ∙ c.requires.here.slot.name;
          least = c.in-Some.ensures;
          first = c.in_ok-tree.ensures.ok;
          rest = c.in_ok-put_member.ensures.ok;
        },
        refl,
      );
      following = c.in_ok-put_member.ensures.following;
      steps = costs_both_slots c.args.self.now.plan.now c.args.here.now.node (c.args.here.now.place + 1) c.args.meter.now c.first_value.new.meter c.put_member.new.meter c.in-Some.size c.args.ahead.now.room (part_within c.in-Some.size c.in-Some.ensures.1.1.0 c.args.ahead.now.room c.in-Some.ensures.1.1.1.1) c.first_value.ensures.steps c.put_member.ensures.steps;
      last = tt;
    }

pub returns-in_err-tree : goal.grow_members-returns-in_err-tree
returns-in_err-tree g t c =
    record { ok = search rules; following = search rules; steps = costs_slots c.args.self.now.plan.now c.args.here.now.node (c.args.here.now.place + 1) c.args.meter.now c.first_value.new.meter c.in-Some.size c.args.ahead.now.room (part_within c.in-Some.size c.in-Some.ensures.1.1.0 c.args.ahead.now.room c.in-Some.ensures.1.1.1.1) c.first_value.ensures.steps; last = search rules }

pub returns-in_err-put_member : goal.grow_members-returns-in_err-put_member
returns-in_err-put_member g t c =
    record { ok = search rules; following = search rules; steps = costs_both_slots c.args.self.now.plan.now c.args.here.now.node (c.args.here.now.place + 1) c.args.meter.now c.first_value.new.meter c.put_member.new.meter c.in-Some.size c.args.ahead.now.room (part_within c.in-Some.size c.in-Some.ensures.1.1.0 c.args.ahead.now.room c.in-Some.ensures.1.1.1.1) c.first_value.ensures.steps c.put_member.ensures.steps; last = search rules }
