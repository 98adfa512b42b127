-- The characters and the digits of a text.
use Rattle.std.proofs.Common.{◌≡◌, ◌<◌, ◌≤◌, ◌∙◌, ◌^◌, ℕ, [], ◌∷◌, ◌++◌, Bool, true, false, length, ap, sym, refl, chars, encode_utf8, encode_utf8_all, string_bytes, append-nil, String, zero, suc, arith, nat_lt, cond, drop, ◌==◌}
use Rattle.std.proofs.lemmas.Bool.Decides.{nat_tests}
use Rattle.std.specs.Global.{Global}
use Rattle.std.proofs.lemmas.Str.{chars-append, chars-nil, chars_past_char, chars_from_encodes, encodes-IsAscii, IsUtf8-string_bytes, IsUtf8-encode}
use Rattle.std.specs.Str.Parse.{without_leading_plus}
use Rattle.std.specs.Char.{IsScalar, digit_value, is_digit}
use Rattle.std.specs.Str.{IsAscii}
use Rattle.std.specs.Str.Parse.{AllDigits, IsNumeral, digits_value}
use Rattle.std.proofs.lemmas.Int.Digits.{digits_value-lt}
use Rattle.std.proofs.Math.Nat.{pow-le-pow_left, pow-le-pow_right}
use Rattle.cel_read.specs.Lexemes.{Text, are_digits}
use Rattle.cel_read.specs.View.{text_of}
use Rattle.cel_read.proofs.RunLemmas.{both}

pub one_more : (old new : String Global) (c : ℕ) → IsScalar c → string_bytes new ≡ string_bytes old ++ encode_utf8 c → text_of new ≡ text_of old ++ c ∷ []
one_more old new c is e =
    let one : chars (encode_utf8 c) ≡ c ∷ [] =
    chars_past_char (encode_utf8 c) [] c (IsUtf8-encode c is) (sym (append-nil (encode_utf8 c))) ∙ ap (λ t. c ∷ t) chars-nil in
    ap chars e ∙ (chars-append (string_bytes old) (encode_utf8 c) (IsUtf8-string_bytes old) ∙ ap (λ t. text_of old ++ t) one)

pub all_digits : (radix : ℕ) (ds : Text) → are_digits radix ds ≡ true → AllDigits radix ds
all_digits radix [] h = tt
all_digits radix (d ∷ ds) h =
    let h' = both (is_digit d radix) (are_digits radix ds) h in
    (let e = h'.0 in grind (arith, nat_tests, e), all_digits radix ds h'.1)

small_digit : (c radix : ℕ) → radix ≤ 36 → digit_value c < radix → c < 128
small_digit c radix r h = grind (arith, nat_tests)

ascii_digits : (radix : ℕ) (ds : Text) → radix ≤ 36 → AllDigits radix ds → IsAscii ds
ascii_digits radix [] r h i = omega arith
ascii_digits radix (d ∷ ds) r h zero = small_digit d radix r h.0
ascii_digits radix (d ∷ ds) r h (suc i) = ascii_digits radix ds r h.1 i

bytes_are : (s : String Global) → encode_utf8_all (text_of s) ≡ string_bytes s
bytes_are s =
    let u = IsUtf8-string_bytes s in
    ap encode_utf8_all (sym (chars_from_encodes u.0 (string_bytes s) u u.1.1)) ∙ u.1.1

no_plus : (d radix : ℕ) → radix ≤ 36 → digit_value d < radix → (d == 43) ≡ false
no_plus d radix r h = grind (arith, nat_tests)

-- the text of digits, as it is parsed
pub digits_parsed : (s : String Global) (radix : ℕ) (ds : Text) → radix ≤ 36 → 1 ≤ length ds → text_of s ≡ ds → are_digits radix ds ≡ true
    → without_leading_plus (string_bytes s) ≡ ds
digits_parsed s radix [] r n t h = absurd (omega (arith, n))
digits_parsed s radix (d ∷ ds) r n t h =
    let all = all_digits radix (d ∷ ds) h in
    let bytes : string_bytes s ≡ d ∷ ds = sym (bytes_are s) ∙ (ap encode_utf8_all t ∙ encodes-IsAscii (d ∷ ds) (ascii_digits radix (d ∷ ds) r all)) in
    ap without_leading_plus bytes ∙ ap (λ b. drop (cond b 1 0) (d ∷ ds)) (no_plus d radix r all.0)

pow_small : (r n : ℕ) → r ≤ 16 → n ≤ 8 → r ^ n ≤ 16 ^ 8
pow_small r n a b = omega (arith, pow-le-pow_left a n, pow-le-pow_right {n = 16} (omega arith) b)

-- at most eight digits have 32 bits
pub short_digits : (radix : ℕ) (ds : Text) → radix ≤ 16 → length ds ≤ 8 → are_digits radix ds ≡ true → digits_value radix ds < 2 ^ 32
short_digits radix ds r n h = let b = digits_value-lt radix ds (all_digits radix ds h) in omega (arith, b, pow_small radix (length ds) r n)

-- digits that no number of 64 bits writes
pub too_large : (radix : ℕ) (ds : Text) → 1 ≤ length ds → are_digits radix ds ≡ true → ¬ (IsNumeral radix ds × (digits_value radix ds < 2 ^ 64)) → 2 ^ 64 ≤ digits_value radix ds
too_large radix ds n h k = by (nat_lt (digits_value radix ds) (2 ^ 64)) refl
  where
    by : (b : Bool) → nat_lt (digits_value radix ds) (2 ^ 64) ≡ b → 2 ^ 64 ≤ digits_value radix ds
    by true e = absurd (k ((omega (arith, n), all_digits radix ds h), grind (arith, nat_tests, e)))
    by false e = grind (arith, nat_tests, e)
