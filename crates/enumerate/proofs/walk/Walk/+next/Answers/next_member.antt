use Rattle.std.proofs.Common.{rules, refl, sym, ap, subst, ◌∙◌, arith, ◌≡◌, ◌+◌, ◌-◌, ◌*◌, ◌≤◌, ℕ, drop, [], ◌∷◌, ◌++◌, append-nil, append_assoc}
use Rattle.std.proofs.lemmas.Result.{IfOk-weaker}
use Rattle.jtree.specs.Data.{object as object_data}
use Rattle.jtree.specs.Nodes.{node_count}
use Rattle.jtree.specs.declared.value.Member.{Member}
use Rattle.enumerate.specs.Internal.Candidates.{stack_of, used_rows}
use Rattle.enumerate.specs.Internal.Rows.{slots_from, slots_after, slot_there, demand_at, larger, IsOpenAt, IsGrownAt, IsValueAt, CostsAfter}
use Rattle.enumerate.specs.Internal.Following.{Continue, ContinueNext, MembersContinue, GrownContinueAt}
use Rattle.enumerate.proofs.walks.Costs.{cost_within, split_cost, costs_slots, parts_kept}
use Rattle.enumerate.proofs.samples.Changes.{differs_in_member, no_member, grown_differs}
use Rattle.enumerate.proofs.rows.Slots.{no_members_in}
use Rattle.enumerate.specs.Internal.Changes.{DiffersAt}
use Rattle.enumerate.proofs.lists.Lemmas.{some_nodes}
use Rattle.enumerate.proofs.rows.SlotMoves.{known_after, in_value, in_grown}
use Rattle.enumerate.proofs.rows.Cuts.{front_kept, grown_left}
use Rattle.jtree.specs.View.{data_of, members_of}
use Rattle.enumerate.specs.Internal.Steps.{CostsLast}
use Rattle.enumerate.specs.declared.walk.NextTree.TheVariants.{To, Last}
use Rattle.enumerate.specs.Internal.Moves.{IsNextTree, ahead_with}
use Rattle.enumerate.proofs.walk.Walk.+next.Given.{Over}
use Rattle.enumerate.proofs.walk.Walk.+next.Goals as goal
use Rattle.enumerate.proofs.walk.Walk.+next.Goals.{next_member-In-To, next_member-In-Last, next_member-After-put_member}

-- the next value, and how many levels down it differs
next_value_here : (g : Over) (t : ℕ) (c : next_member-In-To g t) → IsNextTree (IsValueAt c.args.self.now.plan.now c.args.here.now (used_rows c.args.ahead.now.used) (node_count (data_of c.args.member.tree))) (data_of c.args.member.tree) (To c.in-To.tree c.in-To.depth)
next_value_here g t c =
    subst (λ m. IsNextTree (IsValueAt c.args.self.now.plan.now c.args.here.now (used_rows c.args.ahead.now.used) (node_count (data_of c.args.member.tree))) (data_of c.args.member.tree) m) c.in-To.is c.in_ok-tree.ensures.ok

-- or there is none
no_value_here : (g : Over) (t : ℕ) (c : next_member-In-Last g t) → IsNextTree (IsValueAt c.args.self.now.plan.now c.args.here.now (used_rows c.args.ahead.now.used) (node_count (data_of c.args.member.tree))) (data_of c.args.member.tree) (Last c.in-Last.size)
no_value_here g t c =
    subst (λ m. IsNextTree (IsValueAt c.args.self.now.plan.now c.args.here.now (used_rows c.args.ahead.now.used) (node_count (data_of c.args.member.tree))) (data_of c.args.member.tree) m) c.in-Last.is c.in_ok-tree.ensures.ok

pub returns-in_err-tree : goal.next_member-returns-in_err-tree
returns-in_err-tree g t c =
    record { ok = search rules; left = search rules; following = search rules; steps = (costs_slots c.args.self.now.plan.now c.args.here.now.node (c.args.here.now.place + 1) c.args.meter.now c.next_value.new.meter (3 * node_count (data_of c.args.member.tree)) (3 * node_count (data_of c.args.member.tree) + c.args.ahead.now.room) (omega arith) c.next_value.ensures.steps.0, search rules) }

pub levels_down-depth-requires : goal.next_member-levels_down-depth-requires
levels_down-depth-requires g t c =
    let next = next_value_here g t (goal.at.next_member-levels_down-depth-requires g t c).In-To in
    omega (arith, next.1.few, c.requires.member.slots.limit, c.laws_of.ensures.limit)

pub put_member-requires : goal.next_member-put_member-requires
put_member-requires g t c =
    let q = c.args.self.now.plan.now in
    let here = c.args.here.now in
    let used = used_rows c.args.ahead.now.used in
    let next = next_value_here g t (goal.at.next_member-put_member-requires g t c).In-To in
    record {
      here = c.requires.here;
      name = c.requires.member.name;
      part = next.0.is.0.part;
      following =
          let C = IsValueAt q here used in
          let old = data_of c.args.member.tree in
          let cs = stack_of c.next_value.new.scratch.following.items in
          let continue = subst (λ m. ContinueNext (C (node_count old)) m cs) c.in-To.is c.in_ok-tree.ensures.following in
          subst (λ n. Continue (C n) (data_of c.in-To.tree) cs) (sym next.0.is.0.nodes_are) continue;
      ahead =
          let sound = c.laws_of.ensures.sound in
          record {
            count = c.requires.member.slots.count;
            limit = omega (arith, some_nodes (data_of c.args.member.tree), c.requires.member.slots.limit);
            can = record {
              known = known_after q here.node here.place sound c.requires.here.slot.first used (data_of c.in-To.tree) c.requires.member.slots.can.known;
              rest = c.requires.member.rest;
              free = next.0.is.0.free;
            };
          };
    }

put_cost : (g : Over) (t : ℕ) (c : next_member-After-put_member g t) → CostsAfter c.args.self.now.plan.now c.args.here.now c.args.meter.now c.put_member.new.meter (3 * node_count (data_of c.args.member.tree) + c.args.ahead.now.room)
put_cost g t c = let n = 3 * node_count (data_of c.args.member.tree) in λ w wide. omega (arith, split_cost w n c.args.ahead.now.room (n + c.args.ahead.now.room) (omega arith), c.next_value.ensures.steps.0 w wide, c.put_member.ensures.steps w wide)

pub returns-in_err-put_member-in-To : goal.next_member-returns-in_err-put_member-in-To
returns-in_err-put_member-in-To g t c =
    record { ok = search rules; left = search rules; following = search rules; steps = (put_cost g t (goal.at.next_member-returns-in_err-put_member-in-To g t c).After-put_member, search rules) }

pub returns-in_ok-put_member-in-To : goal.next_member-returns-in_ok-put_member-in-To
returns-in_ok-put_member-in-To g t c =
    let q = c.args.self.now.plan.now in
    let i = c.args.here.now.node in
    let place = c.args.here.now.place in
    let ahead = c.args.ahead.now in
    let old = c.args.member in
    let one : Member = record { name = old.name; tree = c.in-To.tree } in
    let front = c.args.members.now.items in
    let new = c.put_member.new.members.items in
    let adds = c.in_ok-put_member-in-To.ensures.ok in
    let was = c.requires.member in
    let next = next_value_here g t (goal.at.next_member-returns-in_ok-put_member-in-To g t c).In-To in
    record {
      ok = (
        λ gs others h.
            let sound = c.laws_of.ensures.sound in
            in_value q i place sound c.requires.here.slot.first (demand_at q i (ahead_with ahead old)) old others gs h ahead.room one front new was.before was.name refl next.0 adds,
        (
          λ empty.
              let none = no_member adds.added (adds.are ∙ no_members_in q.pools (slots_from q i (place + 1)) adds.fillings adds.least.is.are (adds.least.is.nodes_are ∙ empty)) in
              let is : new ≡ front ++ one ∷ [] = adds.is ∙ (ap (λ l. (front ++ one ∷ []) ++ l) none ∙ append-nil (front ++ one ∷ [])) in
              subst (λ n. DiffersAt n (object_data (members_of (front ++ old ∷ []))) (object_data (members_of new))) (sym (c.levels_down-depth.ensures.last empty))
              (subst (λ l. DiffersAt (c.in-To.depth + 1) (object_data (members_of (front ++ old ∷ []))) (object_data (members_of l))) (sym is) (differs_in_member c.in-To.depth front old one refl next.1)),
          c.levels_down-depth.ensures.other,
        ),
      );
      left = front_kept front (one ∷ adds.added) new (adds.is ∙ append_assoc front (one ∷ []) adds.added);
      following = subst (λ n. MembersContinue q.pools (slots_from q i place) (used_rows ahead.used) (drop n new) (stack_of c.put_member.new.scratch.following.items)) was.before c.in_ok-put_member-in-To.ensures.following;
      steps = (put_cost g t (goal.at.next_member-returns-in_ok-put_member-in-To g t c).After-put_member, tt);
    }

pub grow_larger_members-requires : goal.next_member-grow_larger_members-requires
grow_larger_members-requires g t c =
    let here = c.args.here.now in
    let none = no_value_here g t (goal.at.next_member-grow_larger_members-requires g t c).In-Last in
    record { here = c.requires.here; «open» = subst (λ n. IsOpenAt c.args.self.now.plan.now here.node here.place (larger c.args.ahead.now n)) none.1 c.requires.member.slots }

pub returns-in-Last : goal.next_member-returns-in-Last
returns-in-Last g t c =
    let q = c.args.self.now.plan.now in
    let n = node_count (data_of c.args.member.tree) in
    let last = subst (λ m. CostsLast m q c.args.meter.now c.next_value.new.meter n) c.in-Last.is c.in_ok-tree.ensures.steps.1 in
    let here = c.args.here.now in
    let a = c.args.ahead.now in
    let size = c.in-Last.size in
    let members = c.args.members.now.items in
    let new = c.grow_larger_members.new.members.items in
    record {
      ok = IfOk-weaker c.grow_larger_members.result _ _ (λ st h. (
        λ gs others e.
            let none = no_value_here g t (goal.at.next_member-returns-in-Last g t c).In-Last in
            in_grown q here.node here.place c.laws_of.ensures.sound c.requires.here.slot.first (demand_at q here.node (ahead_with a c.args.member)) c.args.member others gs e st members new c.requires.member.before none.0
            (subst (λ m. IsGrownAt st q here (larger a m) (m + 1) members new) (sym none.1) h),
        grown_differs a.room (object_data (members_of (members ++ c.args.member ∷ []))) st q here (larger a size) (size + 1) members new h,
      )) c.grow_larger_members.ensures.ok;
      following = IfOk-weaker c.grow_larger_members.result _ _ (λ st h. subst (λ m. GrownContinueAt st q here (used_rows a.used) (drop m new) (stack_of c.grow_larger_members.new.scratch.following.items)) c.requires.member.before h) c.grow_larger_members.ensures.following;
      left = IfOk-weaker c.grow_larger_members.result _ _ (λ st h. grown_left st q.pools (slot_there q here) (slots_after q here) (demand_at q here.node (larger a size)) (size + 1) members new h) c.grow_larger_members.ensures.ok;
      steps = (
        let none = no_value_here g t (goal.at.next_member-returns-in-Last g t c).In-Last in
            let few : 2 * n - 1 + (c.args.ahead.now.room + c.in-Last.size) ≤ 3 * n + c.args.ahead.now.room = omega (arith, none.1) in
            λ w wide. omega (arith, cost_within w (2 * n - 1 + (c.args.ahead.now.room + c.in-Last.size)) (3 * n + c.args.ahead.now.room) few, split_cost w (2 * n - 1) (c.args.ahead.now.room + c.in-Last.size) (2 * n - 1 + (c.args.ahead.now.room + c.in-Last.size)) refl, last w wide, c.grow_larger_members.ensures.steps w wide),
        IfOk-weaker c.grow_larger_members.result _ _ (λ st k. parts_kept st q c.args.meter.now c.next_value.new.meter c.grow_larger_members.new.meter (2 * n - 1) last k) c.grow_larger_members.ensures.last,
      );
    }
