-- The check digits of ISBNs and of credit cards. What is no digit is passed over.
use Rattle.std.specs.Prelude.{ℕ, ◌+◌, ◌*◌, ◌-◌, ◌/◌, ◌%◌, List, [], ◌∷◌, length, map, filter, Bool, ◌==◌, ◌&&◌, ◌||◌, nat_le, if◌then◌else◌}

abbrev pub is_digit : ℕ → Bool
is_digit b = nat_le 48 b && nat_le b 57

abbrev pub digits : List ℕ → List ℕ
digits text = map (λ b. b - 48) (filter is_digit text)

-- ISBN-10: the last digit has weight 1, the one before it 2, the first one 10. X is 10. The sum is divisible by 11.
abbrev pub isbn_digits : List ℕ → List ℕ
isbn_digits text = map (λ b. if b == 88 then 10 else b - 48) (filter (λ b. is_digit b || b == 88) text)

abbrev pub isbn_sum : List ℕ → ℕ
isbn_sum [] = 0
isbn_sum (d ∷ ds) = (length ds + 1) * d + isbn_sum ds

abbrev pub has_isbn_check : List ℕ → Bool
has_isbn_check text = isbn_sum (isbn_digits text) % 11 == 0

-- ISBN-13: weights 1 and 3 by turns; the sum is divisible by 10
abbrev pub by_turns : ℕ → ℕ → List ℕ → ℕ
by_turns v w [] = 0
by_turns v w (d ∷ ds) = v * d + by_turns w v ds

abbrev pub has_ean_check : List ℕ → Bool
has_ean_check text = by_turns 1 3 (digits text) % 10 == 0

-- Credit cards (Luhn): a digit that an odd number of digits follows is doubled, and its digits added; the sum is divisible by 10
abbrev pub doubled : ℕ → ℕ
doubled d = 2 * d / 10 + 2 * d % 10

abbrev pub card_sum : List ℕ → ℕ
card_sum [] = 0
card_sum (d ∷ ds) = (if length ds % 2 == 1 then doubled d else d) + card_sum ds

abbrev pub has_card_check : List ℕ → Bool
has_card_check text = card_sum (digits text) % 10 == 0
