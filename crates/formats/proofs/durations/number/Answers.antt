use Rattle.std.proofs.Common.{◌≡◌, ◌-◌, ◌^◌, min, ℕ, ◌+◌, ◌*◌, List, [], ◌∷◌, drop, get_or, true, arith, sym}
use Rattle.std.specs.Char.{digit_value}
use Rattle.std.specs.List.{take_while}
use Rattle.std.specs.Str.Parse.{digits_value_after}
use Rattle.std.proofs.lemmas.Grind.{common_steps}
use Rattle.std.proofs.lemmas.List.Sums.{take_while-cons}
use Rattle.formats.specs.Digits.{is_digit}
use Rattle.formats.proofs.durations.number.Goals as goal

after_capped : (most n : ℕ) (ds : List ℕ) → min (digits_value_after 10 (min n most) ds) most ≡ min (digits_value_after 10 n ds) most
after_capped most n [] = omega arith
after_capped most n (d ∷ ds) =
    let more : min (min n most * 10 + digit_value d) most ≡ min (n * 10 + digit_value d) most = omega arith in
    rw (sym (after_capped most (min n most * 10 + digit_value d) ds), more) (after_capped most (n * 10 + digit_value d) ds)

digit : (most n b : ℕ) (bs : List ℕ) → is_digit b ≡ true → min (digits_value_after 10 (min (min (n * 10) most + (b - 48)) most) (take_while is_digit bs)) most ≡ min (digits_value_after 10 n (take_while is_digit (b ∷ bs))) most
digit most n b bs is = rw (take_while-cons is_digit b bs, is) (grind (arith, after_capped most (n * 10 + digit_value b) (take_while is_digit bs)))

pub loop-byte-preserved : goal.loop-byte-preserved
loop-byte-preserved c = grind (arith, common_steps, digit (2 ^ 64 - 1) c.loop-byte.number (get_or c.args.part.now c.loop-byte.byte-index 0) (drop (c.loop-byte.byte-index + 1) c.args.part.now))
