use Rattle.std.proofs.Common.{◌≡◌, ◌≤◌, ◌^◌, arith, rules}
use Rattle.std.specs.Str.Parse.{digits_value}
use Rattle.cel_read.proofs.SpellingLemmas.{short_digits}
use Rattle.cel_read.proofs.spelling.short_number.Goals as goal

pub overflow_cast-result : goal.overflow_cast-result
overflow_cast-result c =
    let n = c.args.numeral in
    let small = short_digits n.radix n.digits.now n.bounds.1 c.requires n.numeral in
    let value : c.in-Some.number ≡ digits_value n.radix n.digits.now = search rules in
    omega (arith, small, value)

pub returns-in-None : goal.returns-in-None
returns-in-None c =
    let n = c.args.numeral in
    let small = short_digits n.radix n.digits.now n.bounds.1 c.requires n.numeral in
    let large : 2 ^ 64 ≤ digits_value n.radix n.digits.now = search rules in
    absurd (omega (arith, small, large))
