use Rattle.std.proofs.Common.{◌≡◌, ◌∙◌, ap, sym, rules, true, false, get_or}
use Rattle.std.proofs.lemmas.List.{get_or_default}
use Rattle.cel_read.specs.Internal.Runs.{is_of_class}
use Rattle.cel_read.proofs.RunLemmas.{run_more, run_end}
use Rattle.cel_read.proofs.runs.run.Goals as goal

pub loop-i-preserved : goal.loop-i-preserved
loop-i-preserved c =
    let x = c.index-text-i.result in
    let passes : is_of_class c.args.class x ≡ true = search rules in
    let here : get_or c.args.text.now c.loop-i.i 0 ≡ x = get_or_default c.args.text.now c.loop-i.i 0 x c.loop-i-test.true ∙ sym c.index-text-i.is in
    run_more (is_of_class c.args.class) c.args.text.now c.loop-i.i c.loop-i-test.true (ap (is_of_class c.args.class) here ∙ passes) c.loop-i.invariant

pub returns-then-not-is_of_class-clause-value : goal.returns-then-not-is_of_class-clause-value
returns-then-not-is_of_class-clause-value c =
    let x = c.index-text-i.result in
    let other : is_of_class c.args.class x ≡ false = search rules in
    let here : get_or c.args.text.now c.loop-i.i 0 ≡ x = get_or_default c.args.text.now c.loop-i.i 0 x c.loop-i-test.true ∙ sym c.index-text-i.is in
    let end = run_end (is_of_class c.args.class) c.args.text.now c.loop-i.i c.loop-i-test.true (ap (is_of_class c.args.class) here ∙ other) c.loop-i.invariant in
    rw (c.split_at.ensures.front, c.split_at.ensures.back) end
