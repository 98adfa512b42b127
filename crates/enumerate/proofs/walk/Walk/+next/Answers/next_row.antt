use Rattle.std.proofs.Common.{rules, sym, ap, subst, arith, ◌≡◌, ◌+◌, ◌-◌, ◌*◌, ℕ, IfNone, None, Some}
use Rattle.jtree.specs.Data.{AreMembers, object as object_data, Members as MembersData}
use Rattle.jtree.specs.Nodes.{node_count, members_count}
use Rattle.jtree.specs.Order.{tree_cmp}
use Rattle.enumerate.specs.Least.{IsNext}
use Rattle.enumerate.specs.Internal.Nodes.{Costs}
use Rattle.enumerate.specs.Internal.Candidates.{stack_of, used_rows}
use Rattle.plan.specs.Samples.Sizes.{filled_nodes}
use Rattle.enumerate.specs.Internal.Rows.{fill_cmp, IsRest, slots_from, IsRow}
use Rattle.enumerate.specs.Internal.Following.{GrownContinue}
use Rattle.enumerate.specs.Internal.Moves.{AreNext, AreInSlots, AreNextMembers, demand_of}
use Rattle.enumerate.proofs.walks.Costs.{members_row, costs_row}
use Rattle.enumerate.specs.Internal.Changes.{DiffersAt, DiffersTo}
use Rattle.enumerate.proofs.samples.Following.{row_continues}
use Rattle.enumerate.proofs.lists.Lemmas.{some_nodes}
use Rattle.enumerate.proofs.rows.SlotMoves.{row_in_slots}
use Rattle.enumerate.proofs.rows.Order.{in_members, row_moved}
use Rattle.jtree.specs.View.{data_of, members_of}
use Rattle.enumerate.specs.Internal.Steps.{CostsLastSlots}
use Rattle.enumerate.proofs.walk.Walk.+next.Given.{Over}
use Rattle.enumerate.proofs.walk.Walk.+next.Goals as goal
use Rattle.enumerate.proofs.walk.Walk.+next.Goals.{next_row-In-Some, next_row-After-next_members, next_row-In-Made, next_row-In-Last}

-- the members are in the slots
row_here : (g : Over) (t : ℕ) (c : next_row-In-Some g t) → AreInSlots c.args.self.now.plan.now.pools (slots_from c.args.self.now.plan.now c.args.node 0) (demand_of c.args.self.now.plan.now c.args.node (used_rows c.args.used.now) c.requires.row.fillings) c.in-Some.members.items c.requires.row.fillings
row_here g t c = row_in_slots c.args.self.now.plan.now c.args.node (node_count (data_of c.args.tree) - 1) (used_rows c.args.used.now) (data_of c.args.tree) c.in-Some.members.items c.requires.row c.in-Some.ensures.some

row_cost : (g : Over) (t : ℕ) (c : next_row-After-next_members g t) → Costs c.args.self.now.plan.now c.args.meter.now c.next_members.new.meter (3 * node_count (data_of c.args.tree))
row_cost g t c = members_row c.args.self.now.plan.now c.args.node c.args.meter.now c.next_members.new.meter (members_count (members_of c.in-Some.members.items)) (node_count (data_of c.args.tree)) c.requires.node.node c.requires.node.sort (ap node_count c.in-Some.ensures.some) c.next_members.ensures.steps.0

-- the next ones
row_next_here : (g : Over) (t : ℕ) (c : next_row-In-Made g t) → AreNext c.args.self.now.plan.now.pools (slots_from c.args.self.now.plan.now c.args.node 0) (demand_of c.args.self.now.plan.now c.args.node (used_rows c.args.used.now) c.requires.row.fillings) c.requires.row.fillings c.next_members.new.members.items
row_next_here g t c =
    let q = c.args.self.now.plan.now in
    let r = c.requires.row in
    let in_slots = row_in_slots q c.args.node (node_count (data_of c.args.tree) - 1) (used_rows c.args.used.now) (data_of c.args.tree) c.in-Some.members.items r c.in-Some.ensures.some in
    subst (λ st. AreNextMembers st q.pools (slots_from q c.args.node 0) (demand_of q c.args.node (used_rows c.args.used.now) r.fillings) r.fillings c.next_members.new.members.items) c.in-Made.is (c.in_ok-depth.ensures.ok.0 r.fillings in_slots)

-- or there are none
row_none_here : (g : Over) (t : ℕ) (c : next_row-In-Last g t) → IsNext fill_cmp (IsRest c.args.self.now.plan.now.pools (slots_from c.args.self.now.plan.now c.args.node 0) (demand_of c.args.self.now.plan.now c.args.node (used_rows c.args.used.now) c.requires.row.fillings)) c.requires.row.fillings None × (filled_nodes c.requires.row.fillings ≡ c.in-Last.room)
row_none_here g t c =
    let q = c.args.self.now.plan.now in
    let r = c.requires.row in
    let in_slots = row_in_slots q c.args.node (node_count (data_of c.args.tree) - 1) (used_rows c.args.used.now) (data_of c.args.tree) c.in-Some.members.items r c.in-Some.ensures.some in
    subst (λ st. AreNextMembers st q.pools (slots_from q c.args.node 0) (demand_of q c.args.node (used_rows c.args.used.now) r.fillings) r.fillings c.next_members.new.members.items) c.in-Last.is (c.in_ok-depth.ensures.ok.0 r.fillings in_slots)

pub unreachable-requires : goal.next_row-unreachable-requires
unreachable-requires g t c =
    let none = subst (λ r. IfNone r ((ms : MembersData) → data_of c.args.tree ≡ object_data ms → ⊥)) c.in_default.is c.into_members.ensures.none in
    none _ c.requires.row.is

pub next_members-requires : goal.next_row-next_members-requires
next_members-requires g t c κs within =
    let r = c.requires.row in
    let in_slots = row_here g t (goal.at.next_row-next_members-requires g t c).In-Some in
    let count : node_count (data_of c.args.tree) ≡ 1 + members_count (members_of c.in-Some.members.items) = ap node_count c.in-Some.ensures.some in
    (omega (arith, c.decreases), (within, record { node = c.requires.node; used = c.requires.known; in_slots = (r.fillings, in_slots); limit = omega (arith, count, c.requires.limit) }))

pub returns-in_err-depth : goal.next_row-returns-in_err-depth
returns-in_err-depth g t c =
    record { ok = search rules; following = search rules; steps = (row_cost g t (goal.at.next_row-returns-in_err-depth g t c).After-next_members, search rules) }

pub invariant_of-result : goal.next_row-invariant_of-result
invariant_of-result g t c =
    let q = c.args.self.now.plan.now in
    let sound = c.laws_of.ensures.sound in
    let next = row_next_here g t (goal.at.next_row-invariant_of-result g t c).In-Made in
    subst AreMembers (sym next.are) (in_members q.pools (slots_from q c.args.node 0) next.fillings sound.order next.next.is.0.are)

pub returns-in-Made : goal.next_row-returns-in-Made
returns-in-Made g t c =
    let q = c.args.self.now.plan.now in
    let i = c.args.node in
    let n = node_count (data_of c.args.tree) - 1 in
    let used = used_rows c.args.used.now in
    let sound = c.laws_of.ensures.sound in
    let new = c.next_members.new.members.items in
    let next = row_next_here g t (goal.at.next_row-returns-in-Made g t c).In-Made in
    let moved = subst (λ ms. IsNext tree_cmp (IsRow q i n used) (data_of c.args.tree) (Some (object_data ms))) (sym next.are) (row_moved q i n used sound.order (data_of c.args.tree) c.requires.row (Some next.fillings) next.next) in
    record {
      ok = (
        moved,
        subst (λ d. DiffersAt c.in-Made.depth d (object_data (members_of new))) (sym c.in-Some.ensures.some) (subst (λ st. DiffersTo (object_data (members_of c.in-Some.members.items)) st (object_data (members_of new))) c.in-Made.is c.in_ok-depth.ensures.ok.1),
      );
      following =
          let cs = stack_of c.next_members.new.scratch.following.items in
          let continue = subst (λ st. GrownContinue st q.pools (slots_from q i 0) used new cs) c.in-Made.is c.in_ok-depth.ensures.following in
          row_continues q i n used sound new cs (omega (arith, c.requires.limit, c.laws_of.ensures.limit)) moved.is.0 continue;
      steps = (row_cost g t (goal.at.next_row-returns-in-Made g t c).After-next_members, tt);
    }

pub returns-in-Last : goal.next_row-returns-in-Last
returns-in-Last g t c =
    record {
      ok =
          let q = c.args.self.now.plan.now in
          let r = c.requires.row in
          let none = row_none_here g t (goal.at.next_row-returns-in-Last g t c).In-Last in
          (row_moved q c.args.node (node_count (data_of c.args.tree) - 1) (used_rows c.args.used.now) c.laws_of.ensures.sound.order (data_of c.args.tree) r None none.0, omega (arith, none.1, r.rest.nodes_are, some_nodes (data_of c.args.tree)));
      following = tt;
      steps = (
        row_cost g t (goal.at.next_row-returns-in-Last g t c).After-next_members,
        let m = members_count (members_of c.in-Some.members.items) in
            let count : node_count (data_of c.args.tree) ≡ 1 + m = ap node_count c.in-Some.ensures.some in
            costs_row c.args.self.now.plan.now c.args.node c.args.meter.now c.next_members.new.meter (2 * m) (2 * node_count (data_of c.args.tree) - 1) c.requires.node.node c.requires.node.sort (omega (arith, count))
            (subst (λ st. CostsLastSlots st c.args.self.now.plan.now c.args.node 0 c.args.meter.now c.next_members.new.meter (2 * m)) c.in-Last.is c.in_ok-depth.ensures.steps.1),
      );
    }
