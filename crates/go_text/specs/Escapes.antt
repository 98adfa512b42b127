-- What follows a backslash, inside brackets and outside. Go's documentation of regexp/syntax: "Escape sequences", "Perl character classes
-- (all ASCII-only)".
use Rattle.std.specs.Prelude.{ℕ, ◌+◌, ◌*◌, ◌-◌, Bool, not, ◌&&◌, ◌||◌, false, [], ◌∷◌, ◌++◌, length, nat_lt, Option, Some, None, if◌then◌else◌, codes}
use Rattle.std.specs.List.{list_all}
use Rattle.std.specs.Char.{is_ascii, is_ascii_alphanumeric, is_ascii_hexdigit, is_digit, digit_value}
use Rattle.go_text.specs.Texts.{Text, Reading, ◌∈◌, cut}
use Rattle.go_text.specs.Literals.{escaped, literal}

-- `\d`, `\s` and `\w` and their negations
abbrev pub perl_class : ℕ → Option Text
perl_class c =
    if c ∈ "d" then Some (codes "[0-9]")
    else if c ∈ "D" then Some (codes "[^0-9]")
    else if c ∈ "s" then Some (codes "[\\t\\n\\f\\r ]")
    else if c ∈ "S" then Some (codes "[^\\t\\n\\f\\r ]")
    else if c ∈ "w" then Some (codes "[0-9A-Za-z_]")
    else if c ∈ "W" then Some (codes "[^0-9A-Za-z_]")
    else None

-- `\123`, or `\12` where two digits are there: one octal digit, and up to two more
abbrev pub is_octal : ℕ → Bool
is_octal c = c ∈ "01234567"

abbrev pub is_octal_first : Text → Bool
is_octal_first [] = false
is_octal_first (c ∷ t) = is_octal c

abbrev pub with_octal_digit : ℕ × Text → ℕ × Text
with_octal_digit (n, []) = (n, [])
with_octal_digit (n, c ∷ t) = if is_octal c then (8 * n + (c - 48), t) else (n, c ∷ t)

abbrev pub octal_value : ℕ → Text → ℕ × Text
octal_value c t = with_octal_digit (with_octal_digit (c - 48, t))

abbrev pub octal : ℕ → Text → Reading
octal c t = if c ∈ "0" || is_octal_first t then Some (literal (octal_value c t).0, (octal_value c t).1) else None

-- `\x7F` or `\x{10FFFF}`
abbrev pub hex_pair : ℕ → Text → Reading
hex_pair a [] = None
hex_pair a (b ∷ t) = if is_digit a 16 && is_digit b 16 then Some (literal (16 * digit_value a + digit_value b), t) else None

abbrev pub hex_digits : Option (Text × Text) → Reading
hex_digits None = None
hex_digits (Some (digits, t)) =
    if nat_lt 0 (length digits) && list_all is_ascii_hexdigit digits then Some (codes "\\x{" ++ digits ++ codes "}", t) else None

abbrev pub hex : Text → Reading
hex [] = None
hex (c ∷ t) = if c ∈ "{" then hex_digits (cut (codes "}") t) else hex_pair c t

-- an escape of one character
abbrev pub character_escape : ℕ → Text → Reading
character_escape c t =
    if c ∈ "x" then hex t
    else if is_octal c then octal c t
    else if c ∈ "afnrtv" then Some (escaped c, t)
    else if is_ascii c && not (is_ascii_alphanumeric c) then Some (literal c, t)
    else None
