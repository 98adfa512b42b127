-- A name and a word are the same by their bytes where they are by their characters.
use Rattle.std.proofs.Common.{◌≡◌, ◌∙◌, ℕ, List, [], ◌∷◌, Bool, true, false, nat_eq, chars, refl, sym, ap, arith, encode_utf8_all, IsUtf8}
use Rattle.std.proofs.lemmas.Bool.Decides.{nat_tests}
use Rattle.std.proofs.lemmas.Str.{chars-IsAscii, encodes-chars, encodes-IsAscii}
use Rattle.std.specs.Cmp.Lexicographic.{same_text}
use Rattle.std.specs.Str.{IsAscii}
use lib.Pointwise.{pointwise}

same_self : (xs : List ℕ) → pointwise nat_eq xs xs ≡ true
same_self [] = refl
same_self (x ∷ xs) = let h = same_self xs in grind (arith, nat_tests, h)

same_tests : (a b : Bool) → (a ≡ true → b ≡ true) → (b ≡ true → a ≡ true) → a ≡ b
same_tests true b h k = sym (h refl)
same_tests false true h k = k refl
same_tests false false h k = refl

pub by_characters : (bs word : List ℕ) → IsUtf8 bs → IsAscii word → pointwise nat_eq bs word ≡ pointwise nat_eq (chars bs) word
by_characters bs word u w =
    same_tests _ _
    (λ h. let e = same_text bs word (sym h) in ap (λ t. pointwise nat_eq (chars t) word) e ∙ ap (λ t. pointwise nat_eq t word) (chars-IsAscii word w) ∙ same_self word)
    (λ h. let e = same_text (chars bs) word (sym h) in
    let f : bs ≡ word = sym (encodes-chars bs u) ∙ ap encode_utf8_all e ∙ encodes-IsAscii word w in
    ap (λ t. pointwise nat_eq t word) f ∙ same_self word)
