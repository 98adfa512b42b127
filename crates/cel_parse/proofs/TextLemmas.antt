-- The characters of texts.
use Rattle.std.proofs.Common.{◌≡◌, ◌∙◌, ℕ, [], ◌∷◌, ◌++◌, ap, sym, chars, encode_utf8, string_bytes, append-nil, String}
use Rattle.std.specs.Global.{Global}
use Rattle.std.proofs.lemmas.Str.{chars-append, chars-nil, chars_past_char, IsUtf8-string_bytes, IsUtf8-encode}
use Rattle.std.specs.Char.{IsScalar}
use Rattle.cel_read.specs.View.{text_of}

pub one_more : (old new : String Global) (c : ℕ) → IsScalar c → string_bytes new ≡ string_bytes old ++ encode_utf8 c → text_of new ≡ text_of old ++ c ∷ []
one_more old new c is e =
    let one : chars (encode_utf8 c) ≡ c ∷ [] =
    chars_past_char (encode_utf8 c) [] c (IsUtf8-encode c is) (sym (append-nil (encode_utf8 c))) ∙ ap (λ t. c ∷ t) chars-nil in
    ap chars e ∙ (chars-append (string_bytes old) (encode_utf8 c) (IsUtf8-string_bytes old) ∙ ap (λ t. text_of old ++ t) one)

pub text_more : (old new text : String Global) → string_bytes new ≡ string_bytes old ++ string_bytes text → text_of new ≡ text_of old ++ text_of text
text_more old new text e = ap chars e ∙ chars-append (string_bytes old) (string_bytes text) (IsUtf8-string_bytes old)
