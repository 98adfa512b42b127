use Rattle.std.proofs.Common.{rules, List, drop, sym, ap, subst, ◌∙◌, arith, ◌≡◌, ◌-◌, [], ℕ, length}
use Rattle.enumerate.specs.Internal.Following.{Continue, MembersContinue}
use Rattle.jtree.specs.declared.value.Member.{Member}
use Rattle.plan.specs.Samples.Keys.{HasSoundParts}
use Rattle.plan.specs.Samples.Question.{Question}
use Rattle.enumerate.proofs.samples.Following.{row_continues}
use Rattle.enumerate.proofs.walks.Costs.{costs_row}
use Rattle.enumerate.proofs.rows.Slots.{keys_at, adds_nothing}
use Rattle.enumerate.proofs.rows.Order.{in_members, row_least}
use Rattle.jtree.specs.Data.{AreMembers, object as object_data, Data}
use Rattle.jtree.specs.View.{members_of}
use Rattle.jtree.specs.Order.{tree_cmp}
use Rattle.plan.specs.Samples.Sizes.{Before}
use Rattle.enumerate.specs.Least.{IsLeast}
use Rattle.enumerate.specs.Internal.Nodes.{site, Costs}
use Rattle.enumerate.specs.Internal.Candidates.{stack_of, used_rows}
use Rattle.enumerate.specs.Internal.Rows.{slots_from, row_demand, IsOpen, AddsFirst, IsRow}
use Rattle.enumerate.proofs.walk.Walk.+first.Given.{Over}
use Rattle.enumerate.proofs.walk.Walk.+first.Goals as goal
use Rattle.enumerate.proofs.walk.Walk.+first.Goals.{first_row-In_ok-first_members, first_row-After-first_members}

-- the members of the row, and what they cost
row_adds : (g : Over) (t : ℕ) (c : first_row-In_ok-first_members g t) → AddsFirst c.args.self.now.plan.now.pools (slots_from c.args.self.now.plan.now c.args.node 0) (row_demand c.args.self.now.plan.now c.args.node (c.args.size - 1) (used_rows c.args.used.now)) [] c.first_members.new.members.items
row_adds g t c =
    let q = c.args.self.now.plan.now in
    let d = row_demand q c.args.node (c.args.size - 1) (used_rows c.args.used.now) in
    subst (λ old. AddsFirst q.pools (slots_from q c.args.node 0) d old c.first_members.new.members.items) c.new-members.ensures.items
    (subst (λ x. AddsFirst q.pools (slots_from q c.args.node 0) (record d { before = x }) c.new-members.result.items c.first_members.new.members.items) c.nothing.ensures c.in_ok-first_members.ensures.ok)

row_cost : (g : Over) (t : ℕ) (c : first_row-After-first_members g t) → Costs c.args.self.now.plan.now c.args.meter.now c.first_members.new.meter c.args.size
row_cost g t c =
    costs_row c.args.self.now.plan.now c.args.node c.args.meter.now c.first_members.new.meter (c.args.size - 1) c.args.size c.requires.node.node c.requires.node.sort (omega (arith, c.requires.some)) c.first_members.ensures.steps

pub first_members-requires : goal.first_row-first_members-requires
first_members-requires g t c κs within =
    let q = c.args.self.now.plan.now in
    let count = ap (λ (x : Before). x.count) c.nothing.ensures in
    let d = row_demand q c.args.node (c.args.size - 1) (used_rows c.args.used.now) in
    let can = subst (λ x. IsOpen q.pools (slots_from q c.args.node 0) (record d { before = x })) (sym c.nothing.ensures) c.requires.open in
    (omega (arith, c.decreases), (within, (c.requires.node, (omega (arith, c.requires.some, c.if-size-eq1.false), record { count = omega (arith, count); limit = omega (arith, c.requires.some, c.requires.limit, count); can = can }))))

-- without nodes the first row is empty
empty_adds : (q : Question) (i m : ℕ) (used : List Data) (members : List Member) → HasSoundParts q.pools (site q i) → members ≡ [] → m ≡ 0 → IsOpen q.pools (slots_from q i 0) (row_demand q i m used) → AddsFirst q.pools (slots_from q i 0) (row_demand q i m used) [] members
empty_adds q i m used members sound empty none can =
    let ss = slots_from q i 0 in
    subst (λ new. AddsFirst q.pools ss (row_demand q i m used) [] new) (sym empty) (adds_nothing q.pools ss (row_demand q i m used) [] (keys_at q i 0 sound) none can)

pub invariant_of-result : goal.first_row-invariant_of-result
invariant_of-result g t c =
    let q = c.args.self.now.plan.now in
    let sound = c.laws_of.ensures.sound in
    let adds = empty_adds q c.args.node (c.args.size - 1) (used_rows c.args.used.now) c.new-members.result.items sound c.new-members.ensures.items (omega (arith, c.if-size-eq1.true)) c.requires.open in
    subst AreMembers (sym (ap members_of adds.is ∙ adds.are)) (in_members q.pools (slots_from q c.args.node 0) adds.fillings sound.order adds.least.is.are)

pub returns-then-size-eq1 : goal.first_row-returns-then-size-eq1
returns-then-size-eq1 g t c =
    let q = c.args.self.now.plan.now in
    let n = c.args.size - 1 in
    let used = used_rows c.args.used.now in
    let sound = c.laws_of.ensures.sound in
    let adds = empty_adds q c.args.node n used c.new-members.result.items sound c.new-members.ensures.items (omega (arith, c.if-size-eq1.true)) c.requires.open in
    record {
      ok = subst (λ ms. IsLeast tree_cmp (IsRow q c.args.node n used) (object_data ms)) (sym (ap members_of adds.is ∙ adds.are)) (row_least q c.args.node n used sound.order adds.fillings adds.least);
      following = subst (λ l. Continue (IsRow q c.args.node n used) (object_data (members_of c.new-members.result.items)) (stack_of l)) (sym c.clear.ensures.items) tt;
      steps = λ w wide. omega arith;
    }

pub invariant_of-result-2 : goal.first_row-invariant_of-result-2
invariant_of-result-2 g t c =
    let q = c.args.self.now.plan.now in
    let sound = c.laws_of.ensures.sound in
    let adds = row_adds g t (goal.at.first_row-invariant_of-result-2 g t c).In_ok-first_members in
    subst AreMembers (sym (ap members_of adds.is ∙ adds.are)) (in_members q.pools (slots_from q c.args.node 0) adds.fillings sound.order adds.least.is.are)

pub returns : goal.first_row-returns
returns g t c =
    let q = c.args.self.now.plan.now in
    record {
      ok =
          let sound = c.laws_of.ensures.sound in
          let adds = row_adds g t (goal.at.first_row-returns g t c).In_ok-first_members in
          subst (λ ms. IsLeast tree_cmp (IsRow q c.args.node (c.args.size - 1) (used_rows c.args.used.now)) (object_data ms)) (sym (ap members_of adds.is ∙ adds.are)) (row_least q c.args.node (c.args.size - 1) (used_rows c.args.used.now) sound.order adds.fillings adds.least);
      following =
          let i = c.args.node in
          let n = c.args.size - 1 in
          let used = used_rows c.args.used.now in
          let ss = slots_from q i 0 in
          let sound = c.laws_of.ensures.sound in
          let new = c.first_members.new.members.items in
          let cs = stack_of c.first_members.new.scratch.following.items in
          let adds = row_adds g t (goal.at.first_row-returns g t c).In_ok-first_members in
          let continue = subst (λ old. MembersContinue q.pools ss used (drop (length old) new) cs) c.new-members.ensures.items c.in_ok-first_members.ensures.following in
          row_continues q i n used sound new cs (omega (arith, c.ranges.size.fits)) (record { fillings = adds.fillings; is = ap object_data (ap members_of adds.is ∙ adds.are); rest = adds.least.is }) continue;
      steps = row_cost g t (goal.at.first_row-returns g t c).After-first_members;
    }

pub returns-in_err-first_members : goal.first_row-returns-in_err-first_members
returns-in_err-first_members g t c =
    record { ok = search rules; following = search rules; steps = row_cost g t (goal.at.first_row-returns-in_err-first_members g t c).After-first_members }
