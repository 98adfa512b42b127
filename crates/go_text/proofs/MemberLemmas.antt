-- How the reading of the members of a class goes on.
use Rattle.std.proofs.Common.{◌≡◌, ◌≤◌, ◌∙◌, ℕ, zero, suc, [], ◌∷◌, ◌++◌, length, Bool, true, false, Option, Some, None, option_map, refl, sym, ap, codes, append_assoc, arith, String, Bor}
use Rattle.std.specs.Global.{Global}
use Rattle.go_text.specs.Texts.{Text, Reading}
use Rattle.go_text.specs.Brackets.{member, members, closes, class_of, then_more}
use Rattle.go_text.specs.Internal.View.{text_of}
use Rattle.go_text.specs.Internal.Written.{behind, Writes}

-- what the members read so far leave to be read, behind what was written before, is the whole
abbrev pub IsAhead : Reading → Text → Bool → Text → Type 0
IsAhead whole before first rest = (n : ℕ) × (length rest ≤ n) × (option_map (behind before) (members n first rest) ≡ whole)

pub behind_more : (before written : Text) (o : Reading) → option_map (behind before) (then_more written o) ≡ option_map (behind (before ++ written)) o
behind_more before written None = refl
behind_more before written (Some x) = ap (λ t. Some (t, x.1)) (sym (append_assoc before written x.0))

member_read : (n : ℕ) (first : Bool) (c : ℕ) (t written rest : Text) → closes c first ≡ false → member c t ≡ Some (written, rest)
    → members (suc n) first (c ∷ t) ≡ then_more written (members n false rest)
member_read n first c t written rest open_yet read = rw (open_yet, read) refl

-- one member more
pub ahead_more : (whole : Reading) (before : Text) (first : Bool) (c : ℕ) (t written rest : Text) → closes c first ≡ false
    → member c t ≡ Some (written, rest) → length rest ≤ length t → IsAhead whole before first (c ∷ t) → IsAhead whole (before ++ written) false rest
ahead_more whole before first c t written rest open_yet read shorter (zero, le, e) = absurd (omega (arith, le))
ahead_more whole before first c t written rest open_yet read shorter (suc n, le, e) =
    (n, omega (arith, le, shorter), sym (behind_more before written (members n false rest)) ∙ (ap (option_map (behind before)) (sym (member_read n first c t written rest open_yet read)) ∙ e))

members_closed : (n : ℕ) (first : Bool) (c : ℕ) (t : Text) → closes c first ≡ true → members (suc n) first (c ∷ t) ≡ Some (codes "]", t)
members_closed n first c t closed = rw closed refl

-- the bracket that closes the class
pub ahead_closed : (whole : Reading) (before : Text) (first : Bool) (c : ℕ) (t : Text) → closes c first ≡ true
    → IsAhead whole before first (c ∷ t) → whole ≡ Some (before ++ codes "]", t)
ahead_closed whole before first c t closed (zero, le, e) = absurd (omega (arith, le))
ahead_closed whole before first c t closed (suc n, le, e) = sym e ∙ ap (option_map (behind before)) (members_closed n first c t closed)

member_refused : (n : ℕ) (first : Bool) (c : ℕ) (t : Text) → closes c first ≡ false → member c t ≡ None → members (suc n) first (c ∷ t) ≡ None
member_refused n first c t open_yet read = rw (open_yet, read) refl

-- a member that is refused
pub ahead_refused : (whole : Reading) (before : Text) (first : Bool) (c : ℕ) (t : Text) → closes c first ≡ false → member c t ≡ None
    → IsAhead whole before first (c ∷ t) → whole ≡ None
ahead_refused whole before first c t open_yet read (zero, le, e) = absurd (omega (arith, le))
ahead_refused whole before first c t open_yet read (suc n, le, e) = sym e ∙ ap (option_map (behind before)) (member_refused n first c t open_yet read)

members_none : (n : ℕ) (first : Bool) → members n first [] ≡ None
members_none zero first = refl
members_none (suc n) first = refl

-- the end of the text
pub ahead_end : (whole : Reading) (before : Text) (first : Bool) → IsAhead whole before first [] → whole ≡ None
ahead_end whole before first (n, le, e) = sym e ∙ ap (option_map (behind before)) (members_none n first)

pub none_behind : (before : Text) (o : Reading) → option_map (behind before) o ≡ None → o ≡ None
none_behind before None e = refl
none_behind before (Some x) e = cc

none_after : (written : Text) (o : Reading) → o ≡ None → then_more written o ≡ None
none_after written o e = rw e refl

-- a class whose opening is written
pub class_written : (old mid new : String Global) (opening : Text × Text) (found : Option (Bor Text)) → text_of mid ≡ text_of old ++ opening.0
    → Writes mid new found (members (length opening.1) true opening.1) → Writes old new found (class_of opening)
class_written old mid new opening None wrote e = none_after opening.0 _ e
class_written old mid new opening (Some rest) wrote e =
    behind_more (text_of old) opening.0 (members (length opening.1) true opening.1) ∙ (ap (λ t. option_map (behind t) (members (length opening.1) true opening.1)) (sym wrote) ∙ e)
