use Rattle.std.proofs.Common.{rules, ◌≡◌, ◌+◌, ℕ, drop, false, List, ap, sym, subst, ◌∙◌, arith}
use Rattle.jtree.specs.Data.{Data, member as member_data}
use Rattle.jtree.specs.Nodes.{node_count, members_count}
use Rattle.jtree.specs.View.{data_of, members_of}
use Rattle.plan.specs.Samples.Part.{IsPart}
use Rattle.plan.specs.Samples.Sizes.{Before, filled}
use Rattle.enumerate.specs.Internal.Nodes.{site}
use Rattle.enumerate.specs.Internal.Candidates.{rows_of}
use Rattle.enumerate.specs.Internal.Rows.{slots_from, ending_at, CostsSlots}
use Rattle.enumerate.specs.Internal.Membership.{MakeUnusedRow}
use Rattle.enumerate.proofs.walks.Costs.{costs_first, costs_first_rest, costs_wider}
use Rattle.enumerate.proofs.walks.Membership.{lighter, answered, one_slot_less, absent_here, absent_there, filled_here, filled_there}
use Rattle.enumerate.proofs.lists.Lemmas.{some_nodes}
use Rattle.enumerate.proofs.walk.Walk.+part.Given.{Over}
use Rattle.enumerate.proofs.walk.Walk.+part.Goals as goal
use Rattle.enumerate.proofs.walk.Walk.+part.Goals.{make_unused_row-After-is_part}

-- the slot, and its part
part_cost : (g : Over) (t : ℕ) (c : make_unused_row-After-is_part g t) → CostsSlots c.args.self.now.plan.now c.args.node c.args.place c.args.meter.now c.is_part.new.meter (members_count (members_of c.args.members.now))
part_cost g t c =
    costs_first c.args.self.now.plan.now c.args.node c.args.place c.args.meter.now c.slot.new.meter c.is_part.new.meter (node_count (data_of c.in-Some-value_under.tree.now)) (members_count (members_of (drop 1 c.args.members.now))) (members_count (members_of c.args.members.now)) c.slot.ensures.step (ap members_count c.in-Some-value_under.ensures.some) c.is_part.ensures.steps

pub returns-then-slot : goal.make_unused_row-returns-then-slot
returns-then-slot g t c =
    record {
      ok =
          let h = c.in-Some.ensures.some in (
            λ no. cc,
            λ st.
                let k = absent_here c.args.self.now.plan.now c.args.node c.args.place c.in-Some.slot h _ _ _ _ c.in_default-value_under.ensures.none st in
                let must = c.if-slot.true in
                let no : c.in-Some.slot.must ≡ false = k.0 in
                cc,
          );
      steps = λ w wide. omega (arith, c.slot.ensures.step);
    }

pub returns-in_default-value_under : goal.make_unused_row-returns-in_default-value_under
returns-in_default-value_under g t c =
    record {
      ok =
          let h = c.in-Some.ensures.some in
          answered c.make_unused_row.result _ _ (absent_there c.args.self.now.plan.now c.args.node c.args.place c.in-Some.slot h _ _ _ _ c.if-slot.false)
          (λ st. (absent_here c.args.self.now.plan.now c.args.node c.args.place c.in-Some.slot h _ _ _ _ c.in_default-value_under.ensures.none st).1) c.make_unused_row.ensures.ok;
      steps = costs_wider c.args.self.now.plan.now c.args.node c.args.place c.args.meter.now c.slot.new.meter (members_count (members_of c.args.members.now)) c.slot.ensures.step
          (one_slot_less c.args.self.now.plan.now c.args.node c.args.place c.in-Some.slot c.in-Some.ensures.some) c.make_unused_row.new.meter c.make_unused_row.ensures.steps;
    }

pub is_part-requires : goal.make_unused_row-is_part-requires
is_part-requires g t c κs within =
    let count = ap members_count c.in-Some-value_under.ensures.some in
    let lighter_slot = lighter c.args.self.now.plan.now c.in-Some.slot.node c.args.node c.in-Some.ensures.below in
    (omega (arith, c.decreases, lighter_slot), (within, (omega (arith, c.in-Some.ensures.below, c.requires.node.node), omega (arith, count, c.requires.limit))))

pub returns-in_err-is_part : goal.make_unused_row-returns-in_err-is_part
returns-in_err-is_part g t c =
    record { ok = search rules; steps = part_cost g t (goal.at.make_unused_row-returns-in_err-is_part g t c).After-is_part }

pub returns-then-not-branch : goal.make_unused_row-returns-then-not-branch
returns-then-not-branch g t c =
    record {
      ok =
          let q = c.args.self.now.plan.now in
          let h = c.in-Some.ensures.some in
          let order = c.laws_of.ensures.sound.order in (
            λ no. cc,
            λ st.
                let k = filled_here q c.args.node c.args.place c.in-Some.slot h _ _ _ _ _ _ c.in-Some-value_under.ensures.some order st in
                let yes = c.in_ok-is_part.ensures.ok.1 k.0 in
                let no = c.if-not-branch.true in
                cc,
          );
      steps = part_cost g t (goal.at.make_unused_row-returns-then-not-branch g t c).After-is_part;
    }

pub returns-in_err-same : goal.make_unused_row-returns-in_err-same
returns-in_err-same g t c =
    record { ok = search rules; steps = part_cost g t (goal.at.make_unused_row-returns-in_err-same g t c).After-is_part }

pub make_unused_row-requires-2 : goal.make_unused_row-make_unused_row-requires-2
make_unused_row-requires-2 g t c κs within =
    let q = c.args.self.now.plan.now in
    let count = ap members_count c.in-Some-value_under.ensures.some in
    let some = some_nodes (data_of c.in-Some-value_under.tree.now) in
    let less = one_slot_less q c.args.node c.args.place c.in-Some.slot c.in-Some.ensures.some in
    let rest = ap (λ ms. members_count (members_of ms)) c.after_first-after.ensures in
    let more = ap (λ (x : Before). x.count) c.fill.ensures in
    (omega (arith, c.decreases, less), (within, (c.requires.node, (omega (arith, c.in-Some.ensures.within), (omega (arith, c.requires.count, more), omega (arith, count, some, rest, c.requires.limit, more))))))

pub returns : goal.make_unused_row-returns
returns g t c =
    record {
      ok =
          let q = c.args.self.now.plan.now in
          let h = c.in-Some.ensures.some in
          let d = data_of c.in-Some-value_under.tree.now in
          let after = c.after_first-after.ensures in
          let first = c.in-Some-value_under.ensures.some ∙ ap (λ ms. member_data c.in-Some.slot.name.now d (members_of ms)) (sym after) in
          let same = ap rows_of c.as_slice.ensures.value ∙ c.in_ok-same.ensures in
          let part : IsPart q.pools (site q c.in-Some.slot.node) d = c.in_ok-is_part.ensures.ok.0 c.if-not-branch.false in
          let order = c.laws_of.ensures.sound.order in
          let After = λ (x : Before) (us : List Data). MakeUnusedRow q.pools (slots_from q c.args.node (c.args.place + 1)) (ending_at q c.args.node) x us (members_of c.after_first-after.result.now) in
          answered c.make_unused_row-2.result (After c.fill.result (rows_of c.as_slice.result.now)) _
          (λ st. filled_there q c.args.node c.args.place c.in-Some.slot h _ _ _ _ d _ first part (subst (After (filled c.in-Some.slot.bit c.args.before)) same (subst (λ x. After x (rows_of c.as_slice.result.now)) c.fill.ensures st)))
          (λ st. subst (λ x. After x (rows_of c.as_slice.result.now)) (sym c.fill.ensures) (subst (After (filled c.in-Some.slot.bit c.args.before)) (sym same) (filled_here q c.args.node c.args.place c.in-Some.slot h _ _ _ _ d _ first order st).1)) c.make_unused_row-2.ensures.ok;
      steps =
          let after = c.after_first-after.result.now in
          let count = ap members_count c.in-Some-value_under.ensures.some ∙ ap (λ ms. node_count (data_of c.in-Some-value_under.tree.now) + members_count (members_of ms)) (sym c.after_first-after.ensures) in
          costs_first_rest c.args.self.now.plan.now c.args.node c.args.place c.args.meter.now c.slot.new.meter c.is_part.new.meter c.make_unused_row-2.new.meter (node_count (data_of c.in-Some-value_under.tree.now)) (members_count (members_of after)) (members_count (members_of c.args.members.now)) c.slot.ensures.step count
          (one_slot_less c.args.self.now.plan.now c.args.node c.args.place c.in-Some.slot c.in-Some.ensures.some) c.is_part.ensures.steps c.make_unused_row-2.ensures.steps;
    }

pub make_unused_row-requires : goal.make_unused_row-make_unused_row-requires
make_unused_row-requires g t c κs within =
    let less = one_slot_less c.args.self.now.plan.now c.args.node c.args.place c.in-Some.slot c.in-Some.ensures.some in
    (omega (arith, c.decreases, less), (within, (c.requires.node, (omega (arith, c.in-Some.ensures.within), (omega (arith, c.requires.count), c.requires.limit)))))
