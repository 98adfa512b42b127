use Rattle.std.proofs.Common.{◌≡◌, ◌∙◌, ap, sym, rules, true, false, get_or}
use Rattle.std.proofs.lemmas.List.{get_or_default}
use Rattle.go_text.specs.Groups.{is_flag}
use Rattle.go_text.proofs.TextLemmas.{flags_more, flags_end}
use Rattle.go_text.proofs.groups.split_flags.Goals as goal

pub loop-i-preserved : goal.loop-i-preserved
loop-i-preserved c =
    let x = c.index-text-i.result in
    let flag : is_flag x ≡ true = search rules in
    let here : get_or c.args.text.now c.loop-i.i 0 ≡ x = get_or_default c.args.text.now c.loop-i.i 0 x c.loop-i-test.true ∙ sym c.index-text-i.is in
    flags_more c.args.text.now c.loop-i.i c.loop-i-test.true (ap is_flag here ∙ flag) c.loop-i.invariant

pub returns-then-not-is_flag-clause-value : goal.returns-then-not-is_flag-clause-value
returns-then-not-is_flag-clause-value c =
    let x = c.index-text-i.result in
    let other : is_flag x ≡ false = search rules in
    let here : get_or c.args.text.now c.loop-i.i 0 ≡ x = get_or_default c.args.text.now c.loop-i.i 0 x c.loop-i-test.true ∙ sym c.index-text-i.is in
    let end = flags_end c.args.text.now c.loop-i.i c.loop-i-test.true (ap is_flag here ∙ other) c.loop-i.invariant in
    rw (c.split_at.ensures.front, c.split_at.ensures.back) end
