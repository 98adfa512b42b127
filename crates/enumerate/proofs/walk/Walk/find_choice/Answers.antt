use Rattle.std.proofs.Common.{◌≡◌, ◌∙◌, ◌∷◌, [], ◌++◌, sym, ap, subst, arith}
use Rattle.jtree.specs.View.{data_of}
use Rattle.plan.specs.Samples.Candidates.{HasCount}
use Rattle.enumerate.specs.View.{resume_point}
use Rattle.enumerate.specs.Internal.Nodes.{IsCandidateOf}
use Rattle.enumerate.specs.Internal.Candidates.{IsChoice, stack_of}
use Rattle.enumerate.specs.Internal.Following.{AreChoices}
use Rattle.enumerate.proofs.samples.Following.{first_chosen, none_at_first}
use Rattle.enumerate.proofs.leaves.Lemmas.{candidate_part, count_within, none_after, none_at_all}
use Rattle.enumerate.proofs.walk.Walk.find_choice.Goals as goal
use Rattle.enumerate.proofs.walk.Walk.find_choice.Goals.{in-Some+else-is_choice_past, in_default}

pub loop-place-init : goal.loop-place-init
loop-place-init g c = record {
  none = none_at_first c.args.self.now.plan.now c.args.node (IsChoice c.args.self.now.plan.now c.args.node c.args.size (resume_point c.args.after) c.args.used.now);
  empty = c.clear.ensures.items;
  steps = omega arith;
}

pub loop-place-preserved : goal.loop-place-preserved
loop-place-preserved g c =
    let q = c.args.self.now.plan.now in
    let i = c.args.node in
    let C = IsChoice q i c.args.size (resume_point c.args.after) c.args.used.now in
    record {
      none = none_after q i C c.loop-place.place _ c.candidate.ensures.candidate c.loop-place.invariant.none
          (elim c.match-candidate.branch [
            | in-Some+else-is_choice_past w ↦ λ v at h.
                let both = rw w.in-Some.is at at in
                let same : v ≡ data_of w.in-Some.tree.now = cc in
                let d = subst C same h in
                let yes = w.is_choice_past.ensures.1 (d.past, (d.part.nodes_are, d.free)) in
                let no = w.if-is_choice_past.false in
                cc
            | in_default w ↦ λ v at h. let none = rw w.in_default.is at at in cc
          ]);
      empty = c.loop-place.invariant.empty;
      steps = omega (arith, c.loop-place.invariant.steps, c.candidate.ensures.step);
    }

pub returns-then-is_choice_past-clause-ok : goal.returns-then-is_choice_past-clause-ok
returns-then-is_choice_past-clause-ok g c =
    let q = c.args.self.now.plan.now in
    let i = c.args.node in
    let C = IsChoice q i c.args.size (resume_point c.args.after) c.args.used.now in
    let x = data_of c.in-Some.tree.now in
    let candidate = c.in-Some.ensures.candidate in
    let is = c.is_choice_past.ensures.0 c.if-is_choice_past.true in
    let choice : C x = record { part = record { part = candidate_part q i c.loop-place.place x candidate; nodes_are = is.1.0 }; past = is.0; free = is.1.1 } in
    let stack : stack_of c.push.new.self.items ≡ x ∷ [] = ap stack_of (c.in_ok-push.ensures.items ∙ ap (λ xs. xs ++ c.in-Some.tree ∷ []) c.loop-place.invariant.empty) in
    subst (AreChoices C) (sym stack) (first_chosen q i C (λ u h. (h.part.part, omega (arith, h.part.nodes_are, c.requires.limit))) x c.loop-place.place choice candidate c.loop-place.invariant.none)

pub returns-in_err-push-clause-steps : goal.returns-in_err-push-clause-steps
returns-in_err-push-clause-steps g c w width =
    let within = count_within c.args.self.now.plan.now c.args.node c.requires.node.node c.requires.node.sort c.count-place-end.result c.count-place-end.ensures w width in
    omega (arith, within, c.loop-place.invariant.steps, c.candidate.ensures.step)

pub returns-then-is_choice_past-clause-steps : goal.returns-then-is_choice_past-clause-steps
returns-then-is_choice_past-clause-steps g c w width =
    let within = count_within c.args.self.now.plan.now c.args.node c.requires.node.node c.requires.node.sort c.count-place-end.result c.count-place-end.ensures w width in
    omega (arith, within, c.loop-place.invariant.steps, c.candidate.ensures.step)

pub returns-clause-ok : goal.returns-clause-ok
returns-clause-ok g c =
    let q = c.args.self.now.plan.now in
    let i = c.args.node in
    let C = IsChoice q i c.args.size (resume_point c.args.after) c.args.used.now in
    let all : c.count-place-end.result ≡ c.loop-place.place = omega arith in
    let none = none_at_all q i C (λ u h. (h.part.part, omega (arith, h.part.nodes_are, c.requires.limit))) c.loop-place.place (subst (HasCount (IsCandidateOf q i)) all c.count-place-end.ensures) c.loop-place.invariant.none in
    subst (AreChoices C) (sym (ap stack_of c.loop-place.invariant.empty)) none

pub returns-clause-steps : goal.returns-clause-steps
returns-clause-steps g c w width =
    let within = count_within c.args.self.now.plan.now c.args.node c.requires.node.node c.requires.node.sort c.count-place-end.result c.count-place-end.ensures w width in
    omega (arith, within, c.loop-place.invariant.steps)
