-- How the reading of the constructs of a pattern goes on.
use Rattle.std.proofs.Common.{◌≡◌, ◌≤◌, ◌∙◌, ℕ, zero, suc, [], ◌∷◌, ◌++◌, length, Bool, false, Option, Some, None, option_map, refl, sym, ap, append_assoc, append-nil, arith}
use Rattle.go_text.specs.Texts.{Text, Reading}
use Rattle.go_text.specs.KitSyntax.{Construct, construct, constructs, and_then, read_once}
use Rattle.go_text.specs.Internal.Written.{behind, construct_behind}

abbrev pub after_text : Text → Option Text → Option Text
after_text before o = option_map (λ more. before ++ more) o

-- what the constructs read so far leave to be read, behind what was written before, is the whole
abbrev pub IsAhead : Option Text → Text → Bool → Text → Type 0
IsAhead whole before repeats rest = (n : ℕ) × (length rest ≤ n) × (after_text before (constructs n repeats rest) ≡ whole)

after_both : (before written : Text) (o : Option Text) → after_text (before ++ written) o ≡ after_text before (after_text written o)
after_both before written None = refl
after_both before written (Some more) = ap Some (append_assoc before written more)

-- what is left after a construct
abbrev left_after : ℕ → Option (Text × Bool × Text) → Option Text
left_after n None = None
left_after n (Some (before, repeats, rest)) = after_text before (constructs n repeats rest)

left : (n : ℕ) (before : Text) (o : Option Construct) → left_after n (option_map (construct_behind before) o) ≡ after_text before (and_then (constructs n) o)
left n before None = refl
left n before (Some x) = after_both before x.written (constructs n x.repeats x.rest)

-- one construct more
pub ahead_more : (whole : Option Text) (before : Text) (repeats : Bool) (c : ℕ) (t after : Text) (next : Bool) (rest : Text)
    → option_map (construct_behind before) (construct repeats c t) ≡ Some (after, next, rest) → length rest ≤ length t
    → IsAhead whole before repeats (c ∷ t) → IsAhead whole after next rest
ahead_more whole before repeats c t after next rest reads shorter (zero, le, e) = absurd (omega (arith, le))
ahead_more whole before repeats c t after next rest reads shorter (suc n, le, e) =
    (n, omega (arith, le, shorter), ap (left_after n) (sym reads) ∙ (left n before (construct repeats c t) ∙ e))

-- a construct that is refused
pub ahead_refused : (whole : Option Text) (before : Text) (repeats : Bool) (c : ℕ) (t : Text) → construct repeats c t ≡ None
    → IsAhead whole before repeats (c ∷ t) → whole ≡ None
ahead_refused whole before repeats c t refused (zero, le, e) = absurd (omega (arith, le))
ahead_refused whole before repeats c t refused (suc n, le, e) = sym e ∙ ap (λ o. after_text before (and_then (constructs n) o)) refused

constructs_none : (n : ℕ) (repeats : Bool) → constructs n repeats [] ≡ Some []
constructs_none zero repeats = refl
constructs_none (suc n) repeats = refl

-- the end of the text
pub ahead_end : (whole : Option Text) (before : Text) (repeats : Bool) → IsAhead whole before repeats [] → whole ≡ Some before
ahead_end whole before repeats (n, le, e) = sym e ∙ (ap (after_text before) (constructs_none n repeats) ∙ ap Some (append-nil before))

pub after_nothing : (o : Option Text) → after_text [] o ≡ o
after_nothing None = refl
after_nothing (Some t) = refl

abbrev once_behind : Text × Text → Text × Bool × Text
once_behind x = (x.0, false, x.1)

read_behind : (before : Text) (o : Reading) → option_map (construct_behind before) (option_map read_once o) ≡ option_map once_behind (option_map (behind before) o)
read_behind before None = refl
read_behind before (Some x) = refl

-- a class in brackets that is written
pub class_construct : (before new rest : Text) (o : Reading) → option_map (behind before) o ≡ Some (new, rest)
    → option_map (construct_behind before) (option_map read_once o) ≡ Some (new, false, rest)
class_construct before new rest o e = read_behind before o ∙ ap (option_map once_behind) e
