use Rattle.std.proofs.Common.{◌≡◌, ◌+◌, ◌-◌, ℕ, Some, subst, sym, arith}
use Rattle.std.specs.Option.{option_copied, option_map}
use Rattle.jtree.specs.Data.{Data}
use Rattle.jtree.specs.View.{data_of}
use Rattle.plan.specs.Samples.Candidates.{HasCount}
use Rattle.plan.specs.Samples.ByPlace.{IsCandidateAt}
use Rattle.plan.specs.Samples.Question.{Question}
use Rattle.enumerate.specs.Page.{IsPast}
use Rattle.enumerate.specs.Internal.Nodes.{site, IsCandidateOf}
use Rattle.enumerate.proofs.samples.Following.{none_to}
use Rattle.enumerate.proofs.leaves.Lemmas.{none_at_all, some_candidate}
use Rattle.enumerate.proofs.walk.Walk.has_later.Goals as goal

-- a candidate past the tree
abbrev Later : Question → ℕ → Data → Data → Type 0
Later q i v u = IsCandidateOf q i u × IsPast (Some v) u

pub returns-in-Some-clause-none : goal.returns-in-Some-clause-none
returns-in-Some-clause-none g c = λ no u part past.
    let q = c.args.self.now.plan.now in
    let i = c.args.node in
    let v = data_of c.args.tree.now in
    let candidate = subst (λ r. IsCandidateAt q.pools q.limit (site q i) (c.count-count.result - 1) (option_map data_of (option_copied r))) c.in-Some.is c.candidate.ensures.candidate in
    let last : c.count-count.result - 1 + 1 ≡ c.count-count.result = omega (arith, c.if-count-eq0.false) in
    let all = subst (HasCount (IsCandidateOf q i)) (sym last) c.count-count.ensures in
    none_at_all q i (Later q i v) (λ u h. h.0) (c.count-count.result - 1 + 1) all (none_to q i (Later q i v) (Some v) (data_of c.in-Some.last.now) (c.count-count.result - 1) (λ u h. h.1) (λ h. let yes = c.is_past.ensures.1 h in let e = no in cc) candidate) u (part, past)

pub returns-in-None-clause-none : goal.returns-in-None-clause-none
returns-in-None-clause-none g c = λ no u part past.
    let q = c.args.self.now.plan.now in
    let i = c.args.node in
    absurd (some_candidate q i (c.count-count.result - 1) c.count-count.result c.count-count.ensures (omega (arith, c.if-count-eq0.false)) (subst (λ r. IsCandidateAt q.pools q.limit (site q i) (c.count-count.result - 1) (option_map data_of (option_copied r))) c.in-None.is c.candidate.ensures.candidate))
