use Rattle.std.proofs.Common.{rules, ◌≡◌, ◌+◌, ◌≤◌, ◌*◌, sym, refl, subst, ◌∙◌, arith, take}
use Rattle.jtree.specs.Nodes.{node_count, items_count}
use Rattle.jtree.specs.View.{data_of, items_of}
use Rattle.enumerate.specs.Internal.Nodes.{Costs}
use Rattle.enumerate.specs.Internal.Lists.{AreFirst}
use Rattle.enumerate.proofs.walks.Costs.{costs_below}
use Rattle.enumerate.proofs.walks.Membership.{item_few, item_steps, next_steps, unused_in, part_made, part_ends, first_next, goes_on, items_some}
use Rattle.std.proofs.lemmas.List.{take_all}
use Rattle.enumerate.proofs.walk.Walk.+part.Goals as goal

pub returns-in_default : goal.make_list-returns-in_default
returns-in_default g t c =
    record {
      ok = (λ no. cc, λ part. let h = goes_on c.args.self.now.plan.now c.args.node c.args.items.now (sym c.is_empty.ensures ∙ c.if-is_empty.false) c.requires.limit part in absurd (c.in_default.ensures.none h.0 h.1));
      steps = λ w wide. omega (arith, c.item.ensures.step);
    }

pub is_unused_item-requires : goal.make_list-is_unused_item-requires
is_unused_item-requires g t c κs within =
    let x = c.index-items-place.result in
    let few = item_few c.args.items.now c.loop-place.place x (omega arith) (sym c.index-items-place.is) in
    (omega (arith, c.decreases), (within, (record { node = c.requires.node.node; child = c.in-Some.ensures.below }, (c.loop-place.invariant.first, omega (arith, few, c.requires.limit)))))

pub returns-in_err-is_unused_item : goal.make_list-returns-in_err-is_unused_item
returns-in_err-is_unused_item g t c =
    record {
      ok = search rules;
      steps = λ w width.
          let x = c.index-items-place.result in
          let steps : c.is_unused_item.new.meter ≤ c.loop-place.meter + (w + 1) * node_count (data_of x) = c.is_unused_item.ensures.steps w width in
          let before : c.loop-place.meter ≤ c.item.new.meter + (w + 1) * items_count (items_of (take c.loop-place.place c.args.items.now)) = c.loop-place.invariant.steps w width in
          let cost = item_steps w c.args.items.now c.loop-place.place x (omega arith) (sym c.index-items-place.is) in
          omega (arith, steps, before, cost, c.item.ensures.step);
    }

pub returns-then-not-branch : goal.make_list-returns-then-not-branch
returns-then-not-branch g t c =
    record {
      ok =
          let q = c.args.self.now.plan.now in
          let i = c.args.node in
          let x = c.index-items-place.result in
          let rule = c.laws_of.ensures.rule in (
            λ no. cc,
            λ part.
                let unused = unused_in q i c.in-Some.child rule c.in-Some.ensures.some c.args.items.now c.requires.limit c.loop-place.place x (omega arith) (sym c.index-items-place.is) part in
                let yes = c.in_ok-is_unused_item.ensures.ok.1 unused in
                let no = c.if-not-branch.true in
                cc,
          );
      steps = λ w width.
          let x = c.index-items-place.result in
          let steps : c.is_unused_item.new.meter ≤ c.loop-place.meter + (w + 1) * node_count (data_of x) = c.is_unused_item.ensures.steps w width in
          let before : c.loop-place.meter ≤ c.item.new.meter + (w + 1) * items_count (items_of (take c.loop-place.place c.args.items.now)) = c.loop-place.invariant.steps w width in
          let cost = item_steps w c.args.items.now c.loop-place.place x (omega arith) (sym c.index-items-place.is) in
          omega (arith, steps, before, cost, c.item.ensures.step);
    }

pub overflow_cast-items : goal.make_list-overflow_cast-items
overflow_cast-items g t c =
    let few = items_some c.args.items.now in
    omega (arith, few, c.requires.limit, c.laws_of.ensures.limit)

pub returns : goal.make_list-returns
returns g t c =
    record {
      ok =
          let q = c.args.self.now.plan.now in
          let i = c.args.node in
          let rule = c.laws_of.ensures.rule in
          let all : take c.loop-place.place c.args.items.now ≡ c.args.items.now = take_all c.loop-place.place c.args.items.now (omega arith) in (
            λ yes. part_made q i c.in-Some.child rule c.in-Some.ensures.some c.args.items.now c.requires.limit (subst (λ ts. AreFirst q i c.in-Some.child (items_of ts)) all c.loop-place.invariant.first) ((c.more-2.ensures 0).0 (c.has-2.ensures.0 yes)).1,
            λ part. c.has-2.ensures.1 ((c.more-2.ensures 0).1 (omega arith, part_ends q i c.in-Some.child rule c.in-Some.ensures.some c.args.items.now c.requires.limit part)),
          );
      steps =
          let count = items_count (items_of c.args.items.now) in
          let all = take_all c.loop-place.place c.args.items.now (omega arith) in
          costs_below c.args.self.now.plan.now c.args.meter.now c.item.new.meter c.loop-place.meter count (1 + count) c.item.ensures.step refl
          (subst (λ ts. Costs c.args.self.now.plan.now c.item.new.meter c.loop-place.meter (items_count (items_of ts))) all c.loop-place.invariant.steps);
    }

pub loop-place-preserved : goal.make_list-loop-place-preserved
loop-place-preserved g t c =
    let q = c.args.self.now.plan.now in
    let i = c.args.node in
    let x = c.index-items-place.result in
    let unused = c.in_ok-is_unused_item.ensures.ok.0 c.if-not-branch.false in
    record {
      first = first_next q i c.in-Some.child c.args.items.now c.loop-place.place x (omega arith) (sym c.index-items-place.is) c.loop-place.invariant.first unused;
      steps = λ w width.
          let steps : c.is_unused_item.new.meter ≤ c.loop-place.meter + (w + 1) * node_count (data_of x) = c.is_unused_item.ensures.steps w width in
          let before : c.loop-place.meter ≤ c.item.new.meter + (w + 1) * items_count (items_of (take c.loop-place.place c.args.items.now)) = c.loop-place.invariant.steps w width in
          let cost = next_steps w c.args.items.now c.loop-place.place x (omega arith) (sym c.index-items-place.is) in
          omega (arith, steps, before, cost);
    }
