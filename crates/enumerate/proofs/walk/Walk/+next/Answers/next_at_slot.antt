use Rattle.std.proofs.Common.{subst, arith, ◌+◌, ◌*◌}
use Rattle.enumerate.specs.Internal.Prefixes.{EndsIn}
use Rattle.enumerate.proofs.walks.Costs.{cost_within}
use Rattle.jtree.specs.Nodes.{members_count}
use Rattle.jtree.specs.View.{members_of}
use Rattle.enumerate.proofs.walk.Walk.+next.Goals as goal

pub next_filled_slot-requires : goal.next_at_slot-next_filled_slot-requires
next_filled_slot-requires g t c κs within =
    let ends = subst (EndsIn c.args.here.now.slot.name.now) c.as_slice.ensures.value (c.ends_in.ensures.0 c.if-ends_in.true) in
    (omega (arith, c.decreases), (within, (c.requires, subst (λ k. EndsIn k c.args.members.now.items) c.requires.here.slot.name ends)))

pub returns : goal.next_at_slot-returns
returns g t c =
    let all = members_count (members_of c.args.members.now.items) in
    let room = c.args.removed.now.room in
    record {
      ok = c.next_empty_slot.ensures.ok;
      following = c.next_empty_slot.ensures.following;
      steps = (λ w wide. omega (arith, cost_within w room (3 * all + room) (omega arith), c.next_empty_slot.ensures.steps.0 w wide), c.next_empty_slot.ensures.steps.1);
    }
