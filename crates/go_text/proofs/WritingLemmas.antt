-- The characters of a text with more at its end.
use Rattle.std.proofs.Common.{◌≡◌, ◌∙◌, ℕ, List, [], ◌∷◌, ◌++◌, Bool, true, ap, sym, refl, chars, encode_utf8, string_bytes, append-nil, String, IsTrue, zero, suc, false, ◌&&◌, arith}
use Rattle.std.proofs.lemmas.Bool.Decides.{nat_tests}
use Rattle.std.specs.Global.{Global}
use Rattle.std.proofs.lemmas.Str.{chars-append, chars-nil, chars_past_char, chars-IsAscii, IsUtf8-string_bytes, IsUtf8-encode}
use Rattle.std.specs.Char.{is_ascii, IsScalar}
use Rattle.std.specs.Str.{IsAscii}
use Rattle.std.specs.List.{list_all}
use Rattle.go_text.specs.Internal.View.{text_of}

pub one_more : (old new : String Global) (c : ℕ) → IsScalar c → string_bytes new ≡ string_bytes old ++ encode_utf8 c → text_of new ≡ text_of old ++ c ∷ []
one_more old new c scalar e =
    let one : chars (encode_utf8 c) ≡ c ∷ [] =
    chars_past_char (encode_utf8 c) [] c (IsUtf8-encode c scalar) (sym (append-nil (encode_utf8 c))) ∙ ap (λ t. c ∷ t) chars-nil in
    ap chars e ∙ (chars-append (string_bytes old) (encode_utf8 c) (IsUtf8-string_bytes old) ∙ ap (λ t. text_of old ++ t) one)

both : (a b : Bool) → (a && b) ≡ true → (a ≡ true) × (b ≡ true)
both true b e = (refl, e)
both false b e = cc

all_ascii : (bs : List ℕ) → list_all is_ascii bs ≡ true → IsAscii bs
all_ascii [] e i = omega arith
all_ascii (b ∷ bs) e zero = let x = (both (is_ascii b) (list_all is_ascii bs) e).0 in grind (arith, nat_tests)
all_ascii (b ∷ bs) e (suc i) = all_ascii bs (both (is_ascii b) (list_all is_ascii bs) e).1 i

pub ascii_more : (old new : String Global) (t : List ℕ) → IsTrue (list_all is_ascii t) → string_bytes new ≡ string_bytes old ++ t → text_of new ≡ text_of old ++ t
ascii_more old new t ascii e =
    ap chars e ∙ (chars-append (string_bytes old) t (IsUtf8-string_bytes old) ∙ ap (λ u. text_of old ++ u) (chars-IsAscii t (all_ascii t ascii)))
