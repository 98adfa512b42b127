use Rattle.std.proofs.Common.{◌≡◌, ◌∙◌, ◌+◌, ◌-◌, ◌∷◌, ℕ, Option, Some, sym, ap, subst, arith}
use Rattle.std.specs.Option.{option_copied, option_map}
use Rattle.jtree.specs.View.{data_of}
use Rattle.jtree.specs.declared.value.Tree.{Tree}
use Rattle.std.specs.Borrow.{Bor}
use Rattle.plan.specs.Samples.Question.{Question}
use Rattle.plan.specs.Samples.ByPlace.{IsCandidateAt}
use Rattle.enumerate.specs.View.{resume_point}
use Rattle.enumerate.specs.Internal.Nodes.{site}
use Rattle.enumerate.specs.Internal.Candidates.{IsChoice, stack_of}
use Rattle.enumerate.proofs.samples.Following.{Chosen, none_chosen, chosen_more, chosen_same, all_chosen, none_at_first, none_to, stack_pushed}
use Rattle.enumerate.proofs.leaves.Lemmas.{candidate_part, some_candidate, count_within}
use Rattle.enumerate.proofs.walk.Walk.find_choices.Goals as goal

pub loop-place-init : goal.loop-place-init
loop-place-init g c =
    let q = c.args.self.now.plan.now in
    let i = c.args.node in
    let C = IsChoice q i c.args.size (resume_point c.args.after) c.args.used.now in
    let none = none_chosen q i C c.count-place.result c.count-place.ensures in
    record {
      chosen = subst (λ l. Chosen q i C (stack_of l) c.count-place.result) (sym (c.reserve.ensures.items ∙ c.clear.ensures.items)) none;
      within = omega arith;
      room = c.in_ok-reserve.ensures.ok;
      steps = omega arith;
    }

-- the candidate at the place
candidate_here : (q : Question) (i place : ℕ) (o : Option (Bor Tree)) (x : Bor Tree) → o ≡ Some x → IsCandidateAt q.pools q.limit (site q i) place (option_map data_of (option_copied o)) → IsCandidateAt q.pools q.limit (site q i) place (Some (data_of x.now))
candidate_here q i place o x is at = subst (λ r. IsCandidateAt q.pools q.limit (site q i) place (option_map data_of (option_copied r))) is at

pub loop-place-preserved : goal.loop-place-preserved
loop-place-preserved g c =
    let q = c.args.self.now.plan.now in
    let i = c.args.node in
    let C = IsChoice q i c.args.size (resume_point c.args.after) c.args.used.now in
    let place = c.loop-place.place - 1 in
    let vs = stack_of c.loop-place.scratch.following.items in
    let x = data_of c.in-Some.tree.now in
    let back : c.loop-place.place ≡ place + 1 = omega (arith, c.loop-place-test.true) in
    let candidate = candidate_here q i place c.candidate.result c.in-Some.tree c.in-Some.is c.candidate.ensures.candidate in
    record {
      chosen = chosen_same q i C vs x place candidate (λ h. let yes = c.is_choice.ensures.1 (h.part.nodes_are, h.free) in let no = c.if-is_choice.false in cc) (subst (Chosen q i C vs) back c.loop-place.invariant.chosen);
      within = omega (arith, c.loop-place.invariant.within);
      room = omega (arith, c.loop-place.invariant.room, c.loop-place-test.true);
      steps = omega (arith, c.loop-place.invariant.steps, c.candidate.ensures.step, c.loop-place-test.true);
    }

pub loop-place-preserved-then-is_choice : goal.loop-place-preserved-then-is_choice
loop-place-preserved-then-is_choice g c =
    let q = c.args.self.now.plan.now in
    let i = c.args.node in
    let C = IsChoice q i c.args.size (resume_point c.args.after) c.args.used.now in
    let place = c.loop-place.place - 1 in
    let vs = stack_of c.loop-place.scratch.following.items in
    let x = data_of c.in-Some.tree.now in
    let back : c.loop-place.place ≡ place + 1 = omega (arith, c.loop-place-test.true) in
    let candidate = candidate_here q i place c.candidate.result c.in-Some.tree c.in-Some.is c.candidate.ensures.candidate in
    let is = c.is_choice.ensures.0 c.if-is_choice.true in
    let past = c.is_past.ensures.0 c.if-not-is_past.false in
    let choice : C x = record { part = record { part = candidate_part q i place x candidate; nodes_are = is.0 }; past = past; free = is.1 } in
    let pushed : stack_of c.push_reserved.new.self.items ≡ x ∷ vs = ap stack_of c.push_reserved.ensures.items ∙ stack_pushed c.loop-place.scratch.following.items c.in-Some.tree in
    record {
      chosen = subst (λ us. Chosen q i C us place) (sym pushed) (chosen_more q i C (λ u h. (h.part.part, omega (arith, h.part.nodes_are, c.requires.limit))) vs x place choice candidate (subst (Chosen q i C vs) back c.loop-place.invariant.chosen));
      within = omega (arith, c.loop-place.invariant.within);
      room = omega (arith, c.loop-place.invariant.room, c.loop-place-test.true, c.push_reserved.ensures.len, c.push_reserved.ensures.capacity);
      steps = omega (arith, c.loop-place.invariant.steps, c.candidate.ensures.step, c.loop-place-test.true);
    }

pub returns-in_default-clause-ok : goal.returns-in_default-clause-ok
returns-in_default-clause-ok g c =
    let q = c.args.self.now.plan.now in
    absurd (some_candidate q c.args.node (c.loop-place.place - 1) c.count-place.result c.count-place.ensures (omega (arith, c.loop-place-test.true, c.loop-place.invariant.within)) (subst (λ r. IsCandidateAt q.pools q.limit (site q c.args.node) (c.loop-place.place - 1) (option_map data_of (option_copied r))) c.in_default.is c.candidate.ensures.candidate))

pub returns-then-not-is_past-clause-ok : goal.returns-then-not-is_past-clause-ok
returns-then-not-is_past-clause-ok g c =
    let q = c.args.self.now.plan.now in
    let i = c.args.node in
    let after = resume_point c.args.after in
    let C = IsChoice q i c.args.size after c.args.used.now in
    let place = c.loop-place.place - 1 in
    let x = data_of c.in-Some.tree.now in
    let back : c.loop-place.place ≡ place + 1 = omega (arith, c.loop-place-test.true) in
    let candidate = candidate_here q i place c.candidate.result c.in-Some.tree c.in-Some.is c.candidate.ensures.candidate in
    let before = none_to q i C after x place (λ u h. h.past) (λ h. let yes = c.is_past.ensures.1 h in let no = c.if-not-is_past.true in cc) candidate in
    all_chosen q i C (λ u h. (h.part.part, omega (arith, h.part.nodes_are, c.requires.limit))) (stack_of c.loop-place.scratch.following.items) (place + 1) before (subst (Chosen q i C (stack_of c.loop-place.scratch.following.items)) back c.loop-place.invariant.chosen) candidate.candidates candidate.are

pub returns-clause-ok : goal.returns-clause-ok
returns-clause-ok g c =
    let q = c.args.self.now.plan.now in
    let i = c.args.node in
    let C = IsChoice q i c.args.size (resume_point c.args.after) c.args.used.now in
    let none : c.loop-place.place ≡ 0 = omega (arith, c.loop-place-test.false) in
    all_chosen q i C (λ u h. (h.part.part, omega (arith, h.part.nodes_are, c.requires.limit))) (stack_of c.loop-place.scratch.following.items) 0 (none_at_first q i C) (subst (Chosen q i C (stack_of c.loop-place.scratch.following.items)) none c.loop-place.invariant.chosen) c.count-place.ensures.values c.count-place.ensures.are

pub returns-in_default-clause-steps : goal.returns-in_default-clause-steps
returns-in_default-clause-steps g c w width =
    let within = count_within c.args.self.now.plan.now c.args.node c.requires.node.node c.requires.node.sort c.count-place.result c.count-place.ensures w width in
    omega (arith, within, c.loop-place.invariant.steps, c.candidate.ensures.step, c.loop-place-test.true)

pub returns-then-not-is_past-clause-steps : goal.returns-then-not-is_past-clause-steps
returns-then-not-is_past-clause-steps g c w width =
    let within = count_within c.args.self.now.plan.now c.args.node c.requires.node.node c.requires.node.sort c.count-place.result c.count-place.ensures w width in
    omega (arith, within, c.loop-place.invariant.steps, c.candidate.ensures.step, c.loop-place-test.true)

pub returns-clause-steps : goal.returns-clause-steps
returns-clause-steps g c w width =
    let within = count_within c.args.self.now.plan.now c.args.node c.requires.node.node c.requires.node.sort c.count-place.result c.count-place.ensures w width in
    omega (arith, within, c.loop-place.invariant.steps)
