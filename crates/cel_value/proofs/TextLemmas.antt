-- Texts are the same by their bytes where they are by their characters.
use Rattle.std.proofs.Common.{◌≡◌, ◌∙◌, ℕ, List, [], ◌∷◌, Bool, true, false, nat_eq, chars, refl, sym, ap, arith, encode_utf8_all, IsUtf8}
use Rattle.std.proofs.lemmas.Bool.Decides.{nat_tests}
use Rattle.std.proofs.lemmas.Str.{encodes-chars}
use Rattle.std.specs.Cmp.Lexicographic.{same_text}
use lib.Pointwise.{pointwise}

same_self : (xs : List ℕ) → pointwise nat_eq xs xs ≡ true
same_self [] = refl
same_self (x ∷ xs) = let h = same_self xs in grind (arith, nat_tests, h)

same_tests : (a b : Bool) → (a ≡ true → b ≡ true) → (b ≡ true → a ≡ true) → a ≡ b
same_tests true b h k = sym (h refl)
same_tests false true h k = k refl
same_tests false false h k = refl

pub by_characters : (xs ys : List ℕ) → IsUtf8 xs → IsUtf8 ys → pointwise nat_eq xs ys ≡ pointwise nat_eq (chars xs) (chars ys)
by_characters xs ys u v =
    same_tests _ _
    (λ h. let e = same_text xs ys (sym h) in ap (λ t. pointwise nat_eq (chars t) (chars ys)) e ∙ same_self (chars ys))
    (λ h. let e = same_text (chars xs) (chars ys) (sym h) in
    let f : xs ≡ ys = sym (encodes-chars xs u) ∙ ap encode_utf8_all e ∙ encodes-chars ys v in
    ap (λ t. pointwise nat_eq t ys) f ∙ same_self ys)
