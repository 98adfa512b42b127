use Rattle.std.proofs.lemmas.List.Elements.{All-filter}
use Rattle.std.proofs.lemmas.Result.{err_from_is_err_and}
use Rattle.std.proofs.Common.{◌∙◌, All, map, sym, subst}
use Rattle.jtree.specs.Data.{IsTree}
use Rattle.jtree.specs.View.{data_of}
use Rattle.plan.specs.Pools.Pools.{AreSmall}
use Rattle.plan.specs.Pools.Document.{is_any_number, pools_of}
use Rattle.plan.proofs.PoolLemmas.{where_none}
use Rattle.plan.proofs.pools.Pools.read_by.Goals as goal

pub returns-in_err-check_form-clause-err : goal.returns-in_err-check_form-clause-err
returns-in_err-check_form-clause-err c =
    let p = err_from_is_err_and c.from_residual.result c.from_residual.ensures.1 in
    rw (p.1, p.2) (c.in_err-check_form.ensures.err c.args.limits)

pub returns-clause-small : goal.returns-clause-small
returns-clause-small c =
    let small : AreSmall c.args.limits (pools_of (data_of c.args.document.now)) = where_none c.oversized_pool.result _ _ c.oversized_pool.ensures (sym c.is_some.ensures ∙ c.if-is_some.false) in
    rw (
      c.in_ok-integers_of.ensures.integers,
      c.entries.ensures.entries,
      c.in_ok-numbers_of.ensures,
      c.entries-2.ensures.entries,
      c.in_ok-texts_of.ensures,
      c.entries-3.ensures.entries,
      c.in_ok-texts_of-2.ensures,
      c.entries-4.ensures.entries,
      c.in_ok-trees_of.ensures,
      c.entries-5.ensures.entries,
      c.in_ok-members_at.ensures,
      c.in_ok-members_at-2.ensures,
      c.in_ok-texts_of-3.ensures,
      c.entries-6.ensures.entries,
    ) small

pub invariant_of-result : goal.invariant_of-result
invariant_of-result c = (
  c.in_ok-integers_of.ensures.fit,
  subst (All IsTree) (sym c.in_ok-numbers_of.ensures) (All-filter is_any_number IsTree (map data_of c.entries-2.result.now) c.entries-2.ensures.trees),
  subst (λ ts. All IsTree (map data_of ts)) (sym c.in_ok-trees_of.ensures) c.entries-5.ensures.trees,
)
