use Rattle.std.proofs.Common.{arith}
use Rattle.plan.specs.Pools.FixedPaths.{IsFixablePath}
use Rattle.suggest.proofs.JudgingLemmas.{first_fault, good_more, all_good}
use Rattle.suggest.proofs.judging.check_without.Goals as goal

pub returns-then-not-is_fixable_path-clause-err : goal.returns-then-not-is_fixable_path-clause-err
returns-then-not-is_fixable_path-clause-err c =
    first_fault (IsFixablePath c.args.schema.now) (λ t. IsFixablePath c.args.schema.now t → ⊥) c.args.wanted.now.without.now c.loop-path.path-index _ (omega arith) c.loop-path.invariant
    (λ fixable. let t = c.is_fixable_path.ensures.1 fixable in let f = c.if-not-is_fixable_path.true in cc) c.in_ok-from_str.ensures.ok

pub loop-path-preserved : goal.loop-path-preserved
loop-path-preserved c =
    good_more (IsFixablePath c.args.schema.now) c.args.wanted.now.without.now c.loop-path.path-index (omega arith) c.loop-path.invariant (c.is_fixable_path.ensures.0 c.if-not-is_fixable_path.false)

pub returns-clause-ok : goal.returns-clause-ok
returns-clause-ok c = all_good (IsFixablePath c.args.schema.now) c.args.wanted.now.without.now c.loop-path.path-index (omega arith) c.loop-path.invariant
