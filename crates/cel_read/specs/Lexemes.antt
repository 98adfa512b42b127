-- Which texts are lexemes, and what each one is. Texts are lists of code points. Common Expression Language specification,
-- "Syntax" (langdef.md); where it leaves a form open, the rules of the grammar of cel-go (CEL.g4).
use Rattle.std.specs.Prelude.{◌≡◌, ◌⊎◌, ℕ, Bool, true, false, not, ◌&&◌, ◌||◌, ◌==◌, nat_eq, List, [], ◌∷◌, ◌++◌, length, Option, Some, None, if◌then◌else◌, codes}
use Rattle.std.specs.List.{list_all}
use Rattle.std.specs.Char.{is_ascii_alphabetic, is_ascii_alphanumeric, is_digit}
use Rattle.std.specs.Str.Parse.{digits_value}
use lib.Pointwise.{pointwise}
use Prim.Native.String.{String}
use Rattle.cel_read.specs.declared.token.Keyword.{Keyword}
use Rattle.cel_read.specs.declared.token.Keyword.TheVariants.{In, True, False, Null}
use Rattle.cel_read.specs.declared.token.Symbol.{Symbol}
use Rattle.cel_read.specs.declared.token.Symbol.TheVariants as sign

abbrev pub Text : Type 0
Text = List ℕ

-- What a lexeme is. An integer has its magnitude, and a string the code points that it stands for, of whatever size.
pub data Lexeme : Type 0 where
  blank : Lexeme
  name : Text → Lexeme
  keyword : Keyword → Lexeme
  integer : ℕ → Lexeme
  unsigned : Text → Lexeme
  double : Text → Lexeme
  string : List ℕ → Lexeme
  bytes : Lexeme
  symbol : Symbol → Lexeme

abbrev pub is_among : ℕ → Text → Bool
is_among c [] = false
is_among c (d ∷ ds) = c == d || is_among c ds

-- the character is one of these
infix 60 ◌∈◌
abbrev pub ◌∈◌ : ℕ → String → Bool
c ∈ s = is_among c (codes s)

-- the text is this word
abbrev pub spells : String → Text → Bool
spells s t = pointwise nat_eq t (codes s)

-- ---- white space, and comments from `//` to the end of the line

-- the space, the tab, the ends of lines and the form feed
abbrev pub is_white : ℕ → Bool
is_white c = is_among c (0x20 ∷ 0x09 ∷ 0x0A ∷ 0x0D ∷ 0x0C ∷ [])

abbrev pub is_of_comment : ℕ → Bool
is_of_comment c = not (c == 0x0A)

pub data IsBlank : Text → Lexeme → Type 0 where
  white : (c : ℕ) → is_white c ≡ true → IsBlank (c ∷ []) blank
  comment : (cs : Text) → list_all is_of_comment cs ≡ true → IsBlank (0x2F ∷ 0x2F ∷ cs) blank

-- ---- identifiers and keywords

abbrev pub is_letter : ℕ → Bool
is_letter c = is_ascii_alphabetic c || c == 0x5F

abbrev pub is_of_word : ℕ → Bool
is_of_word c = is_ascii_alphanumeric c || c == 0x5F

abbrev pub word : Text → Lexeme
word t =
    if spells "in" t then keyword In
    else if spells "true" t then keyword True
    else if spells "false" t then keyword False
    else if spells "null" t then keyword Null
    else name t

pub data IsWord : Text → Lexeme → Type 0 where
  a_word : (c : ℕ) (cs : Text) → is_letter c ≡ true → list_all is_of_word cs ≡ true → IsWord (c ∷ cs) (word (c ∷ cs))

-- ---- numbers; a minus before one is a symbol

abbrev pub are_digits : ℕ → Text → Bool
are_digits radix ds = list_all (λ c. is_digit c radix) ds

-- 12, 0x1F
pub data IsInteger : Text → ℕ → Type 0 where
  decimal : (d : ℕ) (ds : Text) → are_digits 10 (d ∷ ds) ≡ true → IsInteger (d ∷ ds) (digits_value 10 (d ∷ ds))
  hexadecimal : (d : ℕ) (ds : Text) → are_digits 16 (d ∷ ds) ≡ true → IsInteger (0x30 ∷ 0x78 ∷ d ∷ ds) (digits_value 16 (d ∷ ds))

-- e5, E+5, e-5
pub data IsExponent : Text → Type 0 where
  exponent : (e d : ℕ) (ds : Text) → (e ∈ "eE") ≡ true → are_digits 10 (d ∷ ds) ≡ true → IsExponent (e ∷ d ∷ ds)
  signed_exponent : (e s d : ℕ) (ds : Text) → (e ∈ "eE") ≡ true → (s ∈ "+-") ≡ true → are_digits 10 (d ∷ ds) ≡ true → IsExponent (e ∷ s ∷ d ∷ ds)

-- 1.5, .5, 1.5e3, 1e3
pub data IsDouble : Text → Type 0 where
  fraction : (whole : Text) (d : ℕ) (ds : Text) → are_digits 10 whole ≡ true → are_digits 10 (d ∷ ds) ≡ true → IsDouble (whole ++ 0x2E ∷ d ∷ ds)
  fraction_with_exponent : (whole : Text) (d : ℕ) (ds power : Text) → are_digits 10 whole ≡ true → are_digits 10 (d ∷ ds) ≡ true → IsExponent power
      → IsDouble (whole ++ 0x2E ∷ d ∷ (ds ++ power))
  with_exponent : (d : ℕ) (ds power : Text) → are_digits 10 (d ∷ ds) ≡ true → IsExponent power → IsDouble (d ∷ (ds ++ power))

pub data IsNumber : Text → Lexeme → Type 0 where
  an_integer : (x : Text) (n : ℕ) → IsInteger x n → IsNumber x (integer n)
  an_unsigned : (x : Text) (n u : ℕ) → IsInteger x n → (u ∈ "uU") ≡ true → IsNumber (x ++ u ∷ []) (unsigned (x ++ u ∷ []))
  a_double : (x : Text) → IsDouble x → IsNumber x (double x)

-- ---- strings

-- What a character says after a backslash: that it stands for a code point, or that this many hexadecimal digits follow, or that it is the
-- first of three octal digits.
pub data Escape : Type 0 where
  stands_for : ℕ → Escape
  in_hexadecimal : ℕ → Escape
  in_octal : Escape

abbrev pub escape_of : ℕ → Option Escape
escape_of c =
    if c ∈ "a" then Some (stands_for 7)
    else if c ∈ "b" then Some (stands_for 8)
    else if c ∈ "f" then Some (stands_for 12)
    else if c ∈ "n" then Some (stands_for 10)
    else if c ∈ "r" then Some (stands_for 13)
    else if c ∈ "t" then Some (stands_for 9)
    else if c ∈ "v" then Some (stands_for 11)
    else if c ∈ "\\?\"'`" then Some (stands_for c)
    else if c ∈ "xX" then Some (in_hexadecimal 2)
    else if c ∈ "u" then Some (in_hexadecimal 4)
    else if c ∈ "U" then Some (in_hexadecimal 8)
    else if c ∈ "0123" then Some in_octal
    else None

-- what follows a backslash, and the code point that it stands for
pub data IsEscape : Text → ℕ → Type 0 where
  a_sign : (c v : ℕ) → escape_of c ≡ Some (stands_for v) → IsEscape (c ∷ []) v
  a_hexadecimal : (c n : ℕ) (ds : Text) → escape_of c ≡ Some (in_hexadecimal n) → length ds ≡ n → are_digits 16 ds ≡ true
      → IsEscape (c ∷ ds) (digits_value 16 ds)
  an_octal : (c : ℕ) (ds : Text) → escape_of c ≡ Some in_octal → length ds ≡ 2 → are_digits 8 (c ∷ ds) ≡ true → IsEscape (c ∷ ds) (digits_value 8 (c ∷ ds))

-- How a string is quoted. A raw one has no escapes, and one in three quotes may go on after the end of a line.
pub record Quoting : Type 0 where
  pub raw : Bool
  pub threefold : Bool
  pub quote : ℕ

abbrev pub is_quote : ℕ → Bool
is_quote c = c ∈ "\"'"

abbrev pub closing_mark : Quoting → Text
closing_mark q = if q.threefold then q.quote ∷ q.quote ∷ q.quote ∷ [] else q.quote ∷ []

abbrev pub after_one_quote : ℕ → Text → Option Text
after_one_quote q [] = None
after_one_quote q (a ∷ t) = if a == q then Some t else None

abbrev pub after_three_quotes : ℕ → Text → Option Text
after_three_quotes q (a ∷ b ∷ c ∷ t) = if a == q && (b == q && c == q) then Some t else None
after_three_quotes q _ = None

-- what follows the mark, where it stands at the front
abbrev pub after_mark : Quoting → Text → Option Text
after_mark q t = if q.threefold then after_three_quotes q.quote t else after_one_quote q.quote t

-- a character that stands for itself between the quotes
abbrev pub is_plain : Quoting → ℕ → Bool
is_plain q c = (q.raw || not (c == 0x5C)) && (q.threefold || not (c ∈ "\n\r"))

pub data IsPart (q : Quoting) : Text → ℕ → Type 0 where
  a_character : (c : ℕ) → is_plain q c ≡ true → IsPart q (c ∷ []) c
  an_escape : (e : Text) (v : ℕ) → q.raw ≡ false → IsEscape e v → IsPart q (0x5C ∷ e) v

-- What follows the opening mark, to the end of the first closing mark.
pub data IsBody (q : Quoting) : Text → List ℕ → Type 0 where
  closed : IsBody q (closing_mark q) []
  a_part : (x y : Text) (v : ℕ) (vs : List ℕ) → after_mark q (x ++ y) ≡ None → IsPart q x v → IsBody q y vs → IsBody q (x ++ y) (v ∷ vs)

pub data IsQuoted (raw : Bool) : Text → List ℕ → Type 0 where
  in_quotes : (q : ℕ) (x : Text) (vs : List ℕ) → is_quote q ≡ true → IsBody (record { raw = raw; threefold = false; quote = q }) x vs
      → IsQuoted raw (q ∷ x) vs
  in_three_quotes : (q : ℕ) (x : Text) (vs : List ℕ) → is_quote q ≡ true → IsBody (record { raw = raw; threefold = true; quote = q }) x vs
      → IsQuoted raw (q ∷ q ∷ q ∷ x) vs

pub data IsString : Text → List ℕ → Type 0 where
  a_string : (x : Text) (vs : List ℕ) → IsQuoted false x vs → IsString x vs
  a_raw_string : (r : ℕ) (x : Text) (vs : List ℕ) → (r ∈ "rR") ≡ true → IsQuoted true x vs → IsString (r ∷ x) vs

pub data IsStringLiteral : Text → Lexeme → Type 0 where
  a_text : (x : Text) (vs : List ℕ) → IsString x vs → IsStringLiteral x (string vs)
  some_bytes : (b : ℕ) (x : Text) (vs : List ℕ) → (b ∈ "bB") ≡ true → IsString x vs → IsStringLiteral (b ∷ x) bytes

-- ---- operators, brackets and the like

abbrev pub signs_of_one : List (String × Symbol)
signs_of_one = ("(", sign.LeftParenthesis) ∷ (")", sign.RightParenthesis) ∷ ("[", sign.LeftBracket) ∷ ("]", sign.RightBracket)
    ∷ ("{", sign.LeftBrace) ∷ ("}", sign.RightBrace) ∷ (".", sign.Dot) ∷ (",", sign.Comma) ∷ ("?", sign.Question) ∷ (":", sign.Colon)
    ∷ ("+", sign.Plus) ∷ ("-", sign.Minus) ∷ ("*", sign.Star) ∷ ("/", sign.Slash) ∷ ("%", sign.Percent) ∷ ("!", sign.Not)
    ∷ ("<", sign.Less) ∷ (">", sign.Greater) ∷ []

abbrev pub signs_of_two : List (String × Symbol)
signs_of_two = ("==", sign.Equal) ∷ ("!=", sign.NotEqual) ∷ ("<=", sign.LessOrEqual) ∷ (">=", sign.GreaterOrEqual) ∷ ("&&", sign.And)
    ∷ ("||", sign.Or) ∷ []

abbrev pub listed : List (String × Symbol) → Text → Option Symbol
listed [] t = None
listed (x ∷ xs) t = if spells x.0 t then Some x.1 else listed xs t

abbrev pub one_sign : ℕ → Option Symbol
one_sign c = listed signs_of_one (c ∷ [])

abbrev pub two_signs : ℕ → ℕ → Option Symbol
two_signs c d = listed signs_of_two (c ∷ d ∷ [])

pub data IsSymbol : Text → Lexeme → Type 0 where
  one : (c : ℕ) (s : Symbol) → one_sign c ≡ Some s → IsSymbol (c ∷ []) (symbol s)
  two : (c d : ℕ) (s : Symbol) → two_signs c d ≡ Some s → IsSymbol (c ∷ d ∷ []) (symbol s)

-- ---- the lexemes

abbrev pub IsLexeme : Text → Lexeme → Type 0
IsLexeme x l = IsStringLiteral x l ⊎ (IsWord x l ⊎ (IsNumber x l ⊎ (IsBlank x l ⊎ IsSymbol x l)))
