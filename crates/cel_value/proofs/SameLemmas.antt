-- Lists of different lengths are not equal, and how many entries a map has.
use Rattle.std.proofs.Common.{◌≡◌, ◌+◌, ℕ, List, [], ◌∷◌, Bool, true, false, ◌&&◌, length, refl, ap, ◌∙◌, arith}
use Rattle.cel_value.specs.Same.{same, same_values, entries_count}
use Rattle.cel_value.specs.View.{value_of, values_of, entries_of}
use Rattle.cel_value.specs.declared.value.Value.{Value}
use Rattle.cel_value.specs.declared.value.Entry.{Entry}

and_false : (b : Bool) → (b && false) ≡ false
and_false true = refl
and_false false = refl

pub unlike : (vs ws : List Value) → (length vs ≡ length ws → ⊥) → same_values (values_of vs) (values_of ws) ≡ false
unlike [] [] h = absurd (h refl)
unlike [] (w ∷ ws) h = refl
unlike (v ∷ vs) [] h = refl
unlike (v ∷ vs) (w ∷ ws) h =
    ap (λ b. same (value_of v) (value_of w) && b) (unlike vs ws (λ e. h (omega (arith, e)))) ∙ and_false (same (value_of v) (value_of w))

pub entries_counted : (es : List Entry) → length es ≡ entries_count (entries_of es)
entries_counted [] = refl
entries_counted (e ∷ es) = omega (arith, entries_counted es)
