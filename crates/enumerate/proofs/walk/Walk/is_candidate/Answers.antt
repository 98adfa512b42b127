use Rattle.std.specs.declared.cmp.Ordering.TheVariants.{Equal}
use Rattle.std.proofs.Common.{true, false, ◌≡◌, refl, sym, subst, ◌∙◌, arith}
use Rattle.std.specs.Cmp.{Equal-is}
use Rattle.jtree.specs.Order.{tree_cmp}
use Rattle.jtree.specs.View.{data_of}
use Rattle.jtree.specs.Internal.OrderLaws.{tree_same}
use Rattle.plan.specs.Samples.Part.{IsPart}
use Rattle.plan.specs.Samples.Candidates.{HasCount}
use Rattle.enumerate.specs.Internal.Nodes.{site, IsCandidateOf}
use Rattle.enumerate.proofs.walks.Least.{tree_order}
use Rattle.enumerate.proofs.leaves.Lemmas.{candidate_part, count_within, none_after, none_at_all}
use Rattle.enumerate.proofs.walk.Walk.is_candidate.Goals as goal
use Rattle.enumerate.proofs.walk.Walk.is_candidate.Goals.{in-Some+else-eq, in_default}

pub returns-then-eq-clause-is : goal.returns-then-eq-clause-is
returns-then-eq-clause-is g c =
    let q = c.args.self.now.plan.now in
    let i = c.args.node in
    let v = data_of c.in-Some.candidate.now in
    let is : v ≡ data_of c.args.tree.now = tree_same v (data_of c.args.tree.now) ((Equal-is (tree_cmp v (data_of c.args.tree.now))).0 (sym c.eq.ensures ∙ c.if-eq.true)) in
    (λ _. subst (IsPart q.pools (site q i)) is (candidate_part q i c.loop-place.place v c.in-Some.ensures.candidate), λ _. refl)

pub returns-then-eq-clause-steps : goal.returns-then-eq-clause-steps
returns-then-eq-clause-steps g c w width =
    let within = count_within c.args.self.now.plan.now c.args.node c.requires.node.node c.requires.node.sort c.count-place-end.result c.count-place-end.ensures w width in
    omega (arith, within, c.loop-place.invariant.steps, c.candidate.ensures.step)

pub loop-place-preserved : goal.loop-place-preserved
loop-place-preserved g c =
    let q = c.args.self.now.plan.now in
    let i = c.args.node in
    record {
      none = none_after q i (λ u. IsCandidateOf q i u × (u ≡ data_of c.args.tree.now)) c.loop-place.place _ c.candidate.ensures.candidate c.loop-place.invariant.none
          (elim c.match-candidate.branch [
            | in-Some+else-eq w ↦ λ v at h.
                let both = rw w.in-Some.is at at in
                let same : data_of w.in-Some.candidate.now ≡ data_of c.args.tree.now = let e : data_of w.in-Some.candidate.now ≡ v = cc in e ∙ h.1 in
                let equal : tree_cmp (data_of w.in-Some.candidate.now) (data_of c.args.tree.now) ≡ Equal = rw same (tree_order.own (data_of c.args.tree.now)) in
                let yes = (Equal-is (tree_cmp (data_of w.in-Some.candidate.now) (data_of c.args.tree.now))).1 equal in
                let no = sym w.eq.ensures ∙ w.if-eq.false in
                let both_ways : true ≡ false = sym yes ∙ no in
                cc
            | in_default w ↦ λ v at h. let none = rw w.in_default.is at at in cc
          ]);
      steps = omega (arith, c.loop-place.invariant.steps, c.candidate.ensures.step);
    }

pub returns-clause-is : goal.returns-clause-is
returns-clause-is g c =
    let q = c.args.self.now.plan.now in
    let i = c.args.node in
    let all : c.count-place-end.result ≡ c.loop-place.place = omega arith in (
      λ no. cc,
      λ part. absurd (none_at_all q i (λ u. IsCandidateOf q i u × (u ≡ data_of c.args.tree.now)) (λ u h. h.0) c.loop-place.place
          (subst (HasCount (IsCandidateOf q i)) all c.count-place-end.ensures) c.loop-place.invariant.none (data_of c.args.tree.now) ((part, c.requires.limit), refl)),
    )

pub returns-clause-steps : goal.returns-clause-steps
returns-clause-steps g c w width =
    let within = count_within c.args.self.now.plan.now c.args.node c.requires.node.node c.requires.node.sort c.count-place-end.result c.count-place-end.ensures w width in
    omega (arith, within, c.loop-place.invariant.steps)
