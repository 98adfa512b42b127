use Rattle.std.proofs.Common.{◌≡◌, ℕ, suc, ◌+◌, ◌*◌, length, ◌%◌, List, ◌∷◌, drop, arith}
use Rattle.std.proofs.lemmas.Nat.{mul-mod_first}
use Rattle.std.proofs.lemmas.Grind.{common_steps}
use Rattle.formats.specs.Digits as spec
use Rattle.formats.proofs.digits.has_isbn_check.Goals as goal
use Rattle.formats.proofs.digits.has_isbn_check.Goals.{in-88, in-48-to-57}

-- one digit more, before n others that make s
digit : (sum so_far d n s : ℕ) → ((sum + (so_far + d) % 11) % 11 + (so_far + d) % 11 * n + s) % 11 ≡ (sum + so_far * suc n + ((n + 1) * d + s)) % 11
digit sum so_far d n s = omega (arith, mul-mod_first (so_far + d) n 11)

pub loop-byte-preserved : goal.loop-byte-preserved
loop-byte-preserved c =
    let rest : List ℕ = spec.isbn_digits (drop (c.loop-byte.byte-index + 1) c.as_bytes-byte-items.result.now) in
    let first : spec.isbn_digits (drop c.loop-byte.byte-index c.as_bytes-byte-items.result.now) ≡ c.match-byte.value ∷ rest =
    elim c.match-byte.branch [ in-88 w ↦ grind (arith, common_steps) | in-48-to-57 w ↦ grind (arith, common_steps) ] in
    let same = digit c.loop-byte.sum c.loop-byte.so_far c.match-byte.value (length rest) (spec.isbn_sum rest) in
    record { value = rw same (rw first at c.loop-byte.invariant.value); so_far = omega arith; sum = omega arith }
