use Rattle.std.proofs.Common.{arith}
use Rattle.enumerate.proofs.lists.Lemmas.{grown_items_continue, adds_none, adds_grown}
use Rattle.enumerate.specs.Internal.Candidates.{stack_of}
use Rattle.enumerate.proofs.walk.Walk.+first.Goals as goal

pub returns-in_ok-grow_items : goal.first_items-returns-in_ok-grow_items
returns-in_ok-grow_items g t c =
    let q = c.args.self.now.plan.now in
    record {
      ok = adds_grown q c.args.list.now.node c.args.list.now.child (record { rule = c.laws_of.ensures.rule; ends = c.laws_of.ensures.completed; item = c.requires.follow.first.item }) c.in_ok-grow_items.field-0 c.args.room c.args.items.now.items c.grow_items.new.items.items
          (omega (arith, c.if-room-gt0.true)) (omega (arith, c.ranges.room.fits)) c.requires.follow c.in_ok-grow_items.ensures.ok;
      following = grown_items_continue q c.args.list.now.node c.args.list.now.child (record { rule = c.laws_of.ensures.rule; ends = c.laws_of.ensures.completed; item = c.requires.follow.first.item }) c.in_ok-grow_items.field-0 c.args.room c.args.items.now.items c.grow_items.new.items.items (stack_of c.grow_items.new.scratch.following.items)
          (omega (arith, c.if-room-gt0.true)) (omega (arith, c.ranges.room.fits)) c.requires.follow c.in_ok-grow_items.ensures.ok c.in_ok-grow_items.ensures.following;
      steps = c.grow_items.ensures.steps;
    }

pub returns-else-room-gt0 : goal.first_items-returns-else-room-gt0
returns-else-room-gt0 g t c =
    record {
      ok =
          let q = c.args.self.now.plan.now in
          adds_none q c.args.list.now.node c.args.list.now.child (record { rule = c.laws_of.ensures.rule; ends = c.laws_of.ensures.completed; item = c.requires.follow.first.item }) c.args.room c.args.items.now.items (omega (arith, c.if-room-gt0.false)) c.requires.follow;
      following = c.requires.following;
      steps = λ w wide. omega arith;
    }
