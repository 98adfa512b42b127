use Rattle.enumerate.specs.Internal.Following.{Continue}
use Rattle.enumerate.proofs.samples.Following.{item_continues}
use Rattle.enumerate.proofs.walks.Costs.{part_within, costs_within, costs_both}
use Rattle.std.proofs.Common.{rules, ℕ, refl, subst, arith, ◌-◌, ◌≤◌, length}
use Rattle.enumerate.specs.Internal.Lists.{FitsItem, IsUnusedItem, AddsItems}
use Rattle.enumerate.proofs.lists.Lemmas.{some_nodes, follow_item}
use Rattle.jtree.specs.Order.{tree_cmp}
use Rattle.jtree.specs.View.{data_of, items_of}
use Rattle.enumerate.specs.Least.{IsLeast}
use Rattle.enumerate.specs.Internal.Candidates.{stack_of}
use Rattle.enumerate.specs.Internal.Nodes.{Costs}
use Rattle.enumerate.proofs.walk.Walk.+first.Given.{Over}
use Rattle.enumerate.proofs.walk.Walk.+first.Goals as goal
use Rattle.enumerate.proofs.walk.Walk.+first.Goals.{grow_items-After-first_item, grow_items-After-first_items}
use Rattle.plan.specs.Sets.{IsLeastFrom, IsEmptyFrom}

-- the item, and those after it
item_cost : (g : Over) (t : ℕ) (c : grow_items-After-first_item g t) → Costs c.args.self.now.plan.now c.args.meter.now c.first_item.new.meter c.args.room
item_cost g t c = costs_within c.args.self.now.plan.now c.args.meter.now c.first_item.new.meter c.in-Some.size c.args.room (part_within c.in-Some.size c.in-Some.ensures.1.1.0 c.args.room c.in-Some.ensures.1.1.1.1) c.first_item.ensures.steps

items_cost : (g : Over) (t : ℕ) (c : grow_items-After-first_items g t) → Costs c.args.self.now.plan.now c.args.meter.now c.first_items.new.meter c.args.room
items_cost g t c = costs_both c.args.self.now.plan.now c.args.meter.now c.first_item.new.meter c.first_items.new.meter c.in-Some.size c.args.room (part_within c.in-Some.size c.in-Some.ensures.1.1.0 c.args.room c.in-Some.ensures.1.1.1.1) c.first_item.ensures.steps c.first_items.ensures.steps

pub returns-in_default : goal.grow_items-returns-in_default
returns-in_default g t c =
    record {
      ok = (refl, subst (λ l. IsEmptyFrom (FitsItem c.args.self.now.plan.now c.args.list.now.node c.args.list.now.child (length l) c.args.room) c.args.from) c.as_slice-others.ensures.value c.in_default.ensures, refl);
      following = tt;
      steps = λ w wide. omega arith;
      last = refl;
    }

pub returns-in_err-item : goal.grow_items-returns-in_err-item
returns-in_err-item g t c =
    record { ok = search rules; following = search rules; steps = item_cost g t (goal.at.grow_items-returns-in_err-item g t c).After-first_item; last = search rules }

pub returns-in_err-push : goal.grow_items-returns-in_err-push
returns-in_err-push g t c =
    record { ok = search rules; following = search rules; steps = item_cost g t (goal.at.grow_items-returns-in_err-push g t c).After-first_item; last = search rules }

pub returns-in_err-first_items : goal.grow_items-returns-in_err-first_items
returns-in_err-first_items g t c =
    record { ok = search rules; following = search rules; steps = items_cost g t (goal.at.grow_items-returns-in_err-first_items g t c).After-first_items; last = search rules }

pub returns : goal.grow_items-returns
returns g t c =
    record {
      ok =
          let q = c.args.self.now.plan.now in
          let same = c.as_slice-others.ensures.value in
          let first = subst (λ l. IsLeast tree_cmp (IsUnusedItem q c.args.list.now.node c.args.list.now.child c.in-Some.size (items_of l)) (data_of c.in_ok-item.item)) same c.in_ok-item.ensures.ok in (
            record {
              size = c.in-Some.size;
              one = c.in_ok-item.item;
              least = subst (λ l. IsLeastFrom (FitsItem q c.args.list.now.node c.args.list.now.child (length l) c.args.room) c.args.from c.in-Some.size) same c.in-Some.ensures;
              first = first;
              rest = subst (λ l. AddsItems q c.args.list.now.node (c.args.room - c.in-Some.size) l c.first_items.new.items.items) c.in_ok-push.ensures.items c.in_ok-first_items.ensures.ok;
            },
            refl,
          );
      following = c.in_ok-first_items.ensures.following;
      steps = items_cost g t (goal.at.grow_items-returns g t c).After-first_items;
      last = tt;
    }

pub first_items-requires : goal.grow_items-first_items-requires
first_items-requires g t c κs within =
    let q = c.args.self.now.plan.now in
    let old = c.args.items.now.items in
    let same = c.as_slice-others.ensures.value in
    let fit = subst (λ l. FitsItem q c.args.list.now.node c.args.list.now.child (length l) c.args.room c.in-Some.size) same c.in-Some.ensures.1 in
    let first = subst (λ l. IsLeast tree_cmp (IsUnusedItem q c.args.list.now.node c.args.list.now.child c.in-Some.size (items_of l)) (data_of c.in_ok-item.item)) same c.in_ok-item.ensures.ok in
    let some : 1 ≤ c.in-Some.size = omega (arith, some_nodes (data_of c.in_ok-item.item), first.is.part.nodes_are) in
    let few : c.in-Some.size ≤ c.args.room = omega (arith, fit.1.1.1) in
    let follow = follow_item q c.args.list.now.node c.args.list.now.child c.args.room c.in-Some.size old c.push.new.self.items c.in_ok-item.item c.requires.first c.requires.within fit first.is c.in_ok-push.ensures.items in
    let cs = stack_of c.first_item.new.scratch.following.items in
    let continue = subst (λ l. Continue (IsUnusedItem q c.args.list.now.node c.args.list.now.child c.in-Some.size (items_of l)) (data_of c.in_ok-item.item) cs) same c.in_ok-item.ensures.following in
    (omega (arith, c.decreases, some, few), (within, record { list = c.requires.list; follow = follow; following = item_continues q c.args.list.now c.in-Some.size old c.push.new.self.items c.in_ok-item.item cs c.in_ok-push.ensures.items first.is.part.nodes_are continue }))
