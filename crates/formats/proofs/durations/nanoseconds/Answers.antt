use Rattle.std.proofs.Common.{rules, ◌≡◌, ◌-◌, ◌^◌, min, ℕ, suc, zero, ◌+◌, ◌*◌, ◌<◌, List, [], ◌∷◌, ◌++◌, length, arith, refl}
use Rattle.std.specs.List.{IsChunkByPrefix}
use Rattle.std.proofs.lemmas.List.Sorted.{answers_always}
use Rattle.std.proofs.lemmas.List.Sums.{sum_by-cons}
use Rattle.formats.specs.Durations as spec
use Rattle.formats.proofs.durations.nanoseconds.Goals as goal

parts_first : (part later : List ℕ) → 0 < length part → IsChunkByPrefix spec.in_one_part (part ++ later) (length part) → spec.parts (part ++ later) ≡ part ∷ spec.parts later
parts_first [] later h prefix = absurd (omega (arith, h))
parts_first (a ∷ []) [] h prefix = refl
parts_first (a ∷ []) (b ∷ bs) h prefix = rw (prefix.1 (grind arith) 0) refl
parts_first (a ∷ b ∷ part) later h prefix =
    let next : IsChunkByPrefix spec.in_one_part (b ∷ (part ++ later)) (length (b ∷ part)) = record {
      0 = λ k d i. let more : suc k + 1 ≡ suc (k + 1) = omega arith in rw more at (prefix.0 (suc k) d (grind arith));
      1 = λ i d. let less : length (a ∷ b ∷ part) - 1 ≡ suc (length (b ∷ part) - 1) = grind arith in rw less at (prefix.1 (grind arith) d);
    } in
    rw (prefix.0 0 0 (grind arith), parts_first (b ∷ part) later (grind arith) next) refl

capped_mul : (most n u : ℕ) → min (min n most * u) most ≡ min (n * u) most
capped_mul most n zero = omega arith
capped_mul most n (suc u) = grind arith

pub loop-part-preserved : goal.loop-part-preserved
loop-part-preserved c =
    let step = c.in-Some.ensures.steps in
    let later : List ℕ = c.next.new.self.rest.now in
    let first = parts_first c.in-Some.part.now later step.1 (rw step.0 at (step.2 spec.in_one_part (answers_always _ _ _ (λ f a r g called. search rules))).1) in
    let sum = sum_by-cons (λ part. spec.number part * spec.unit (spec.unit_of part)) c.in-Some.part.now (spec.parts later) in
    let before = rw (step.0, first, sum) at c.loop-part.invariant.value in
    grind (arith, before, capped_mul (2 ^ 64 - 1) (spec.number c.in-Some.part.now) (spec.unit (spec.unit_of c.in-Some.part.now)))
