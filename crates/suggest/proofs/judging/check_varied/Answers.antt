use Rattle.std.proofs.Common.{◌≡◌, ◌∙◌, [], get_or, sym, arith}
use Rattle.suggest.specs.View.{trees_of, wanted_of}
use Rattle.suggest.specs.Suggested.Document.{single}
use Rattle.suggest.specs.Suggested.Fault.{CanVary}
use Rattle.suggest.specs.Suggested.Varied.{reach}
use Rattle.suggest.specs.declared.varying.Reach.TheVariants.{Undeclared, Missing}
use Rattle.suggest.proofs.JudgingLemmas.{no_text, first_fault, good_more, all_good}
use Rattle.suggest.proofs.judging.check_varied.Goals as goal
use Rattle.suggest.proofs.judging.check_varied.Goals.{In_ok-reached}

-- what was found at this path
found : (c : In_ok-reached) → reach (get_or c.args.wanted.now.varied.now c.loop-path.path-index no_text).now (single (trees_of c.args.wanted.now.objects.now)) [] c.args.schema.now ≡ c.in_ok-reached.field-0
found c = (λ j. reach (get_or c.args.wanted.now.varied.now c.loop-path.path-index no_text).now (sym c.single-object.ensures j) [] (sym c.root.ensures.node j)) ∙ sym c.in_ok-reached.ensures

pub returns-in-Undeclared-clause-err : goal.returns-in-Undeclared-clause-err
returns-in-Undeclared-clause-err c =
    first_fault (CanVary c.args.schema.now (wanted_of c.args.wanted.now)) (λ t. reach t (single (trees_of c.args.wanted.now.objects.now)) [] c.args.schema.now ≡ Undeclared) c.args.wanted.now.varied.now c.loop-path.path-index _ (omega arith)
    c.loop-path.invariant (found (goal.at.returns-in-Undeclared-clause-err c).In_ok-reached ∙ c.in-Undeclared.is) c.in_ok-from_str-in-Undeclared.ensures.ok

pub returns-in-Missing-clause-err : goal.returns-in-Missing-clause-err
returns-in-Missing-clause-err c =
    first_fault (CanVary c.args.schema.now (wanted_of c.args.wanted.now)) (λ t. reach t (single (trees_of c.args.wanted.now.objects.now)) [] c.args.schema.now ≡ Missing) c.args.wanted.now.varied.now c.loop-path.path-index _ (omega arith)
    c.loop-path.invariant (found (goal.at.returns-in-Missing-clause-err c).In_ok-reached ∙ c.in-Missing.is) c.in_ok-from_str-in-Missing.ensures.ok

pub loop-path-preserved : goal.loop-path-preserved
loop-path-preserved c =
    good_more (CanVary c.args.schema.now (wanted_of c.args.wanted.now)) c.args.wanted.now.varied.now c.loop-path.path-index (omega arith) c.loop-path.invariant (found (goal.at.loop-path-preserved c).In_ok-reached ∙ c.in-There.is)

pub returns-clause-ok : goal.returns-clause-ok
returns-clause-ok c = all_good (CanVary c.args.schema.now (wanted_of c.args.wanted.now)) c.args.wanted.now.varied.now c.loop-path.path-index (omega arith) c.loop-path.invariant
