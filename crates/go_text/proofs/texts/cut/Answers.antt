use Rattle.std.proofs.Common.{◌∙◌, rules}
use Rattle.go_text.proofs.TextLemmas.{cut_more, cut_found}
use Rattle.go_text.proofs.texts.cut.Goals as goal

pub loop-i-preserved : goal.loop-i-preserved
loop-i-preserved c =
    cut_more c.args.mark.now c.args.text.now c.loop-i.i c.loop-i-test.true (search rules) ∙ c.loop-i.invariant

pub returns-then-starts_with-clause-value : goal.returns-then-starts_with-clause-value
returns-then-starts_with-clause-value c =
    cut_found c.args.mark.now c.args.text.now _ _ c.loop-i.i c.loop-i-test.true (search rules) c.split_at.ensures.front (search rules) c.loop-i.invariant
