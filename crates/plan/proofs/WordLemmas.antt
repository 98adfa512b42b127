-- What `|`, masks, shifts and counts of zeros do to the bits of words, as sets. Here `w` is the width of the words `a`, `b` and `s`.
use Rattle.std.specs.Prelude.{◌≡◌, ℕ, ◌+◌, ◌-◌, ◌*◌, ◌/◌, ◌%◌, ◌^◌, ◌≤◌, ◌<◌, ◌⊎◌, ◌↔◌, ◌≢◌}
use Rattle.std.proofs.Common.{refl, inl, inr, arith, bit_and, bit_or}
use Rattle.std.specs.Int.{Width, bit_at, trailing_zeros}
use Rattle.std.proofs.lemmas.Bool.{cases_lt}
use Rattle.std.proofs.lemmas.Nat.{one_shl, shr-shr, and_mask, shr_le, pow_pos}
use Rattle.std.proofs.lemmas.Nat.Bits.{bit_at_and, bit_at_or, bit_at-lt, bit_at-zero, bit_at-pow_same, bit_at-pow_other, bit_at_ones, bit_at_ones_above, bit_at_above, bit_at_cat_low, bit_at_cat_high, ones_shr, bit_at-trailing_zeros}
use Rattle.plan.specs.Sets.{HasBit, IsSum, IsLeastFrom, IsEmptyFrom}
use mir.Val.{bits}

-- `0`
pub no_bits : (w n : ℕ) → ¬ HasBit w 0 n
no_bits w n h = omega (arith, h.1, bit_at-zero n)

-- `1 << k`
pub one_bits : (w k : ℕ) → k < w → (m : ℕ) → HasBit w (1 * 2 ^ k % 2 ^ w) m ↔ (m ≡ k)
one_bits w k h m = rw (one_shl k w h) (grind (arith, bit_at-pow_same, bit_at-pow_other))

-- `a | b`
pub union_bits : (w a b n : ℕ) → HasBit w (bit_or a b) n ↔ (HasBit w a n ⊎ HasBit w b n)
union_bits w a b n = rw bit_at_or (grind (arith, bit_at-lt))

-- `a` with a mask of the low `m` bits
pub low_bits : (w m a n : ℕ) → HasBit w (bit_and a (2 ^ m - 1)) n ↔ ((n < m) × HasBit w a n)
low_bits w m a n = rw bit_at_and (grind (arith, bit_at-lt, bit_at_ones, bit_at_ones_above))

-- `a >> n`
pub shifted_right : (a n i j : ℕ) → n + j ≡ i → bit_at (a / 2 ^ n) j ≡ bit_at a i
shifted_right a n i j h = grind (arith, shr-shr)

-- `b << k`
pub shifted_left : (w k b n : ℕ) → HasBit w (b * 2 ^ k % 2 ^ w) n ↔ ((n < w) × (k ≤ n) × HasBit w b (n - k))
shifted_left w k b n =
    let low = bit_at_cat_low b k 0 n in
    let high = bit_at_cat_high b k 0 n (pow_pos k) in
    rw (← and_mask (b * 2 ^ k) w, bit_at_and) (grind (arith, bit_at-lt, bit_at-zero, bit_at_ones, low, high))

-- where `a >> n` is 0
pub none_from : (w a n : ℕ) → a / 2 ^ n ≡ 0 → IsEmptyFrom (HasBit w a) n
none_from w a n e i above = rw (← shifted_right a n i (i - n) (omega arith), e) (grind (arith, bit_at-zero))

-- where `a >> n` is not 0
pub least_from : (w : Width) (a n : ℕ) → a < 2 ^ bits w → a / 2 ^ n ≢ 0 → IsLeastFrom (HasBit (bits w) a) n (n + trailing_zeros w (a / 2 ^ n))
least_from w a n fits some =
    let rest = a / 2 ^ n in
    let lowest = bit_at-trailing_zeros w rest (omega arith) (omega (arith, shr_le a n)) in
    let here = shifted_right a n (n + trailing_zeros w rest) (trailing_zeros w rest) refl in
    (omega arith, (grind (arith, bit_at_above), omega arith), λ i above below. grind (arith, lowest.2 (i - n), shifted_right a n i (i - n)))

-- The word s holds sums of a member of a and one of b alone, and each such sum that it can hold with the first below k.
pub record IsSumsBelow (w a b k s : ℕ) : Type 0 where
  pub sound : (n : ℕ) → HasBit w s n → IsSum (HasBit w a) (HasBit w b) n
  pub whole : (i j n : ℕ) → i < k → HasBit w a i → HasBit w b j → i + j ≡ n → n < w → HasBit w s n

pub sums_none : {w a b : ℕ} → IsSumsBelow w a b 0 0
sums_none = record { sound = λ n h. grind (arith, bit_at-zero); whole = λ i j n. grind arith }

sums_skip : {w a b k n s : ℕ} → IsSumsBelow w a b k s → ((i : ℕ) → k ≤ i → i < n → ¬ HasBit w a i) → IsSumsBelow w a b n s
sums_skip {k = k} h none = record { sound = h.sound; whole = λ i j m below p q sum fits. elim (cases_lt i k) [ inl less ↦ h.whole i j m less p q sum fits | inr more ↦ absurd (none i more below p) ] }

sums_more : {w a b k s : ℕ} → IsSumsBelow w a b k s → HasBit w a k → IsSumsBelow w a b (k + 1) (bit_or s (b * 2 ^ k % 2 ^ w))
sums_more {w = w} {b = b} {k = k} {s = s} h here =
    let both = union_bits w s (b * 2 ^ k % 2 ^ w) in
    let moved = shifted_left w k b in
    record {
      sound = λ n m.
          elim ((both n).0 m) [
            | inl old ↦ h.sound n old
            | inr new ↦ let p = (moved n).0 new in (k, (n - k, (here, p.2, omega arith)))
          ];
      whole = λ i j n. grind (arith, both n, moved n, h.whole i j n);
    }

-- with the next member, and where there is none
pub sums_next : {w a b k n s : ℕ} → IsSumsBelow w a b k s → IsLeastFrom (HasBit w a) k n → IsSumsBelow w a b (n + 1) (bit_or s (b * 2 ^ n % 2 ^ w))
sums_next h least = sums_more (sums_skip h least.2) least.1

pub sums_last : {w a b k s : ℕ} → IsSumsBelow w a b k s → IsEmptyFrom (HasBit w a) k → IsSumsBelow w a b w s
sums_last h empty = sums_skip h (λ i above below. empty i above)

pub sums_limited : {w a b k s limit : ℕ} → IsSumsBelow w a b k s → w ≤ k → limit < w → (n : ℕ) → HasBit w (bit_and s ((2 ^ w - 1) / 2 ^ (w - 1 - limit))) n ↔ ((n ≤ limit) × IsSum (HasBit w a) (HasBit w b) n)
sums_limited {w = w} {s = s} {limit = limit} h past within n =
    let count : w - (w - 1 - limit) ≡ limit + 1 = omega arith in
    let fits : w - 1 - limit ≤ w = omega arith in
    let low = low_bits w (limit + 1) s n in
    rw (ones_shr w (w - 1 - limit) fits, count) (
      (λ m. let p = low.0 m in (omega arith, h.sound n p.1)),
      (λ (small, (i, (j, (p, q, sum)))). low.1 (omega arith, h.whole i j n (omega (arith, p.0)) p q sum (omega arith))),
    )

-- where the second set has all from its least member up to the limit
pub sums_full : (w a b n least limit : ℕ) → IsLeastFrom (HasBit w a) 0 n → IsLeastFrom (HasBit w b) 0 least → b / 2 ^ least ≡ (2 ^ w - 1) / 2 ^ (w - 1 - limit) / 2 ^ least → limit < w
    → (m : ℕ) → HasBit w (bit_and (b * 2 ^ n % 2 ^ w) ((2 ^ w - 1) / 2 ^ (w - 1 - limit))) m ↔ ((m ≤ limit) × IsSum (HasBit w a) (HasBit w b) m)
sums_full w a b n least limit first lowest same within m =
    let count : w - (w - 1 - limit) ≡ limit + 1 = omega arith in
    let fits : w - 1 - limit ≤ w = omega arith in
    let low = low_bits w (limit + 1) (b * 2 ^ n % 2 ^ w) m in
    let moved = shifted_left w n b m in
    let ones : (2 ^ w - 1) / 2 ^ (w - 1 - limit) ≡ 2 ^ (limit + 1) - 1 = rw (ones_shr w (w - 1 - limit) fits, count) refl in
    rw ones (
      (λ h. let p = low.0 h in let q = moved.0 p.1 in (omega arith, (n, (m - n, (first.1, q.2, omega arith))))),
      (λ (small, (i, (j, (p, q, sum)))).
          let above : n ≤ i = elim (cases_lt i n) [ inl less ↦ absurd (first.2 i (omega arith) less p) | inr more ↦ more ] in
          let beyond : least ≤ j = elim (cases_lt j least) [ inl less ↦ absurd (lowest.2 j (omega arith) less q) | inr more ↦ more ] in
          let here = shifted_right b least (m - n) (m - n - least) (omega arith) in
          let there = shifted_right (2 ^ (limit + 1) - 1) least (m - n) (m - n - least) (omega arith) in
          let one = bit_at_ones (limit + 1) (m - n) (omega arith) in
          low.1 (omega arith, moved.1 (omega arith, omega arith, (omega arith, grind (arith, here, there, one, same, ones))))),
    )
