use Rattle.std.proofs.Common.{◌≡◌, ◌≤◌, ◌-◌, ◌∙◌, length, take, drop, ap, sym, subst, arith, true, false, Some, None, rules}
use Rattle.cel_read.specs.Lexemes.{are_digits}
use Rattle.cel_read.specs.Internal.Runs.{run}
use Rattle.cel_read.specs.Internal.Reading.{is_decimal, is_hexadecimal, begins_hexadecimal, begins_fraction, after_exponent}
use Rattle.cel_read.proofs.RunLemmas.{run_passes}
use Rattle.cel_read.proofs.NumberLemmas.{rest_slice, hexadecimal_some, integer_found}
use Rattle.cel_read.proofs.numbers.read_number.Goals as goal

pub invariant_of-suffixed : goal.invariant_of-suffixed
invariant_of-suffixed c =
    let t = c.args.text.now in
    let hex : begins_hexadecimal t ≡ true = search rules in
    record {
      bounds = (omega arith, omega arith);
      some = subst (λ x. 1 ≤ length x.0) (sym (c.run.ensures.value ∙ ap (run is_hexadecimal) (rest_slice 2 t))) (hexadecimal_some t hex);
      numeral = ap (λ x. are_digits 16 x.0) c.run.ensures.value ∙ run_passes is_hexadecimal (take (length t - 2) (drop 2 t));
    }

pub invariant_of-suffixed-2 : goal.invariant_of-suffixed-2
invariant_of-suffixed-2 c =
    let some : 1 ≤ length c.run-2.result.0.now = search rules in
    record {
      bounds = (omega arith, omega arith);
      some = some;
      numeral = ap (λ x. are_digits 10 x.0) c.run-2.ensures.value ∙ run_passes is_decimal c.args.text.now;
    }

pub returns : goal.returns
returns c =
    let t = c.args.text.now in
    let b = c.run-2.result.1.now in
    let x : begins_hexadecimal t ≡ false = search rules in
    let f : begins_fraction b ≡ false = search rules in
    let n : 1 ≤ length c.run-2.result.0.now = search rules in
    let e : after_exponent b ≡ None = search rules in
    ap Some c.suffixed-2.ensures ∙ sym (integer_found t c.run-2.result.0.now b x (sym c.run-2.ensures.value) f n e)
