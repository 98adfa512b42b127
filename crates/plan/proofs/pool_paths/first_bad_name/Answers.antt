use Rattle.std.proofs.Common.{◌≡◌, ◌∙◌, ◌+◌, ap, sym, subst, drop}
use Rattle.std.proofs.lemmas.List.{at_drop_more}
use Rattle.jtree.specs.Data.{member}
use Rattle.jtree.specs.View.{data_of, members_of}
use Rattle.plan.specs.Pools.PlanFault.{HasName, IsFirstBad}
use Rattle.plan.specs.Internal.PathLists.{LeadsTo}
use Rattle.plan.proofs.PoolPathLemmas.{IsAsRest, rest_passed, first_bad}
use Rattle.plan.proofs.pool_paths.first_bad_name.Goals as goal

pub returns-then-not-leads_to : goal.returns-then-not-leads_to
returns-then-not-leads_to c =
    let xs = c.deref-member-items.result.now in
    let i = c.loop-member.member-index in
    let m = c.member-item.result in
    let Good = LeadsTo c.args.to c.args.schema.now in
    let all : members_of xs ≡ c.args.lists.now = ap members_of c.deref-member-items.ensures.value ∙ c.lists.view_is in
    let step : members_of (drop i xs) ≡ member m.name (data_of m.tree) (members_of (drop (i + 1) xs)) =
    rw c.member-item.is (at_drop_more members_of xs i m c.loop-member-test.true) in
    let rest = subst (λ ms. IsAsRest Good ms (members_of xs)) step c.loop-member.invariant in
    let bad : Good m.name → ⊥ = λ good. let contrary = sym c.if-not-leads_to.true ∙ c.leads_to.ensures.1 (subst Good (sym c.as_str.ensures) good) in cc in
    subst (λ text. IsFirstBad (HasName c.args.lists.now) Good text) (sym c.as_str-then-not-leads_to.ensures)
    (subst (λ ms. IsFirstBad (HasName ms) Good m.name) all (first_bad Good m.name (data_of m.tree) (members_of (drop (i + 1) xs)) (members_of xs) rest bad))

pub loop-member-preserved : goal.loop-member-preserved
loop-member-preserved c =
    let xs = c.deref-member-items.result.now in
    let i = c.loop-member.member-index in
    let m = c.member-item.result in
    let Good = LeadsTo c.args.to c.args.schema.now in
    let step : members_of (drop i xs) ≡ member m.name (data_of m.tree) (members_of (drop (i + 1) xs)) =
    rw c.member-item.is (at_drop_more members_of xs i m c.loop-member-test.true) in
    let rest = subst (λ ms. IsAsRest Good ms (members_of xs)) step c.loop-member.invariant in
    rest_passed Good m.name (data_of m.tree) (members_of (drop (i + 1) xs)) (members_of xs) rest
    (subst Good c.as_str.ensures (c.leads_to.ensures.0 c.if-not-leads_to.false))
