use Rattle.std.proofs.Common.{◌≡◌, ◌≤◌, ◌∙◌, ap, sym, subst, ◌<◌, ◌^◌, arith}
use Rattle.std.specs.Str.Parse.{IsNumeral, digits_value, without_leading_plus}
use Rattle.cel_read.proofs.SpellingLemmas.{digits_parsed, too_large}
use Rattle.cel_read.proofs.spelling.number.Goals as goal

pub returns-in-Ok : goal.returns-in-Ok
returns-in-Ok c =
    let n = c.args.numeral in
    let small : n.radix ≤ 36 = omega (arith, n.bounds.1) in
    let text : without_leading_plus c.as_str.result.now ≡ n.digits.now =
    ap without_leading_plus c.as_str.ensures.value ∙ digits_parsed c.in_ok-text.text n.radix n.digits.now small n.some c.in_ok-text.ensures n.numeral in
    c.in-Ok.ensures.value.1 ∙ ap (digits_value n.radix) text

pub returns : goal.returns
returns c =
    let n = c.args.numeral in
    let small : n.radix ≤ 36 = omega (arith, n.bounds.1) in
    let text : without_leading_plus c.as_str.result.now ≡ n.digits.now =
    ap without_leading_plus c.as_str.ensures.value ∙ digits_parsed c.in_ok-text.text n.radix n.digits.now small n.some c.in_ok-text.ensures n.numeral in
    too_large n.radix n.digits.now n.some n.numeral (λ h. c.in-Err.ensures.value (subst (λ t. IsNumeral n.radix t × (digits_value n.radix t < 2 ^ 64)) (sym text) h))
