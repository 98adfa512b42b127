-- Reading as functions: what stands at the front of a text, and what follows it.
use Rattle.std.specs.Prelude.{ℕ, zero, suc, Bool, true, false, not, ◌&&◌, ◌==◌, ◌-◌, nat_lt, List, [], ◌∷◌, length, take, drop, Option, Some, None, option_map, if◌then◌else◌}
use Rattle.std.specs.Char.{is_digit}
use Rattle.std.specs.Str.Parse.{digits_value}
use Rattle.cel_read.specs.Lexemes.{Text, Lexeme, blank, integer, unsigned, double, string, bytes, symbol, ◌∈◌, is_white, is_of_comment, is_letter, is_of_word, word, are_digits, Escape, stands_for, in_hexadecimal, in_octal, escape_of, Quoting, is_quote, after_mark, is_plain, one_sign, two_signs}
use Rattle.cel_read.specs.declared.token.Symbol.{Symbol}
use Rattle.cel_read.specs.Internal.Runs.{run}

-- a lexeme and what follows it
abbrev pub Found : Type 0
Found = Option (Lexeme × Text)

-- what stands before the rest of a text
abbrev pub before : Text → Text → Text
before t rest = take (length t - length rest) t

-- the longer one of two
abbrev pub longer_of : Lexeme × Text → Lexeme × Text → Found
longer_of x y = if nat_lt (length y.1) (length x.1) then Some y else Some x

abbrev pub longer : Found → Found → Found
longer None g = g
longer (Some x) None = Some x
longer (Some x) (Some y) = longer_of x y

-- ---- blanks

abbrev pub read_comment : ℕ → Text → Found
read_comment c [] = None
read_comment c (d ∷ t) = if c == 0x2F && d == 0x2F then Some (blank, (run is_of_comment t).1) else None

abbrev pub read_blank : Text → Found
read_blank [] = None
read_blank (c ∷ t) = if is_white c then Some (blank, t) else read_comment c t

-- ---- words

abbrev pub read_word : Text → Found
read_word [] = None
read_word (c ∷ t) = if is_letter c then Some (word (c ∷ (run is_of_word t).0), (run is_of_word t).1) else None

-- ---- numbers

abbrev pub is_decimal : ℕ → Bool
is_decimal c = is_digit c 10

abbrev pub is_hexadecimal : ℕ → Bool
is_hexadecimal c = is_digit c 16

abbrev pub begins_with_digit : Text → Bool
begins_with_digit [] = false
begins_with_digit (c ∷ t) = is_decimal c

abbrev pub begins_hexadecimal : Text → Bool
begins_hexadecimal (a ∷ b ∷ c ∷ t) = a == 0x30 && (b == 0x78 && is_hexadecimal c)
begins_hexadecimal _ = false

abbrev pub begins_fraction : Text → Bool
begins_fraction (a ∷ b ∷ t) = a == 0x2E && is_decimal b
begins_fraction _ = false

-- what follows an exponent
abbrev pub after_sign : ℕ → Text → Option Text
after_sign s t = if s ∈ "+-" && begins_with_digit t then Some (run is_decimal t).1 else None

abbrev pub after_exponent_sign : Text → Option Text
after_exponent_sign [] = None
after_exponent_sign (s ∷ t) = if is_decimal s then Some (run is_decimal t).1 else after_sign s t

abbrev pub after_exponent : Text → Option Text
after_exponent [] = None
after_exponent (e ∷ t) = if e ∈ "eE" then after_exponent_sign t else None

abbrev pub or_else : Text → Option Text → Text
or_else t None = t
or_else t (Some r) = r

-- after the digits of an integer, whether it is one with a suffix
abbrev pub suffixed : Text → ℕ → Text → Lexeme × Text
suffixed t n [] = (integer n, [])
suffixed t n (c ∷ r) = if c ∈ "uU" then (unsigned (before t r), r) else (integer n, c ∷ r)

abbrev pub double_to : Text → Text → Lexeme × Text
double_to t rest = (double (before t rest), rest)

abbrev pub read_integer : Text → Text → Text → Option Text → Found
read_integer t [] r o = None
read_integer t (d ∷ ds) r (Some rest) = Some (double_to t rest)
read_integer t (d ∷ ds) r None = Some (suffixed t (digits_value 10 (d ∷ ds)) r)

-- after the digits at the front of a text
abbrev pub after_fraction : Text → Text
after_fraction r = (run is_decimal (drop 1 r)).1

abbrev pub read_decimal : Text → Text × Text → Found
read_decimal t x =
    if begins_fraction x.1 then Some (double_to t (or_else (after_fraction x.1) (after_exponent (after_fraction x.1))))
    else read_integer t x.0 x.1 (after_exponent x.1)

abbrev pub read_hexadecimal : Text → Text × Text → Found
read_hexadecimal t x = Some (suffixed t (digits_value 16 x.0) x.1)

abbrev pub read_number : Text → Found
read_number t = if begins_hexadecimal t then read_hexadecimal t (run is_hexadecimal (drop 2 t)) else read_decimal t (run is_decimal t)

-- ---- strings

-- a code point and what follows it
abbrev pub Part : Type 0
Part = Option (ℕ × Text)

abbrev pub read_digits : ℕ → ℕ → Text → Part
read_digits radix n t =
    if not (nat_lt (length t) n) && are_digits radix (take n t) then Some (digits_value radix (take n t), drop n t) else None

abbrev pub read_escaped : Option Escape → ℕ → Text → Part
read_escaped None c t = None
read_escaped (Some (stands_for v)) c t = Some (v, t)
read_escaped (Some (in_hexadecimal n)) c t = read_digits 16 n t
read_escaped (Some in_octal) c t = read_digits 8 3 (c ∷ t)

abbrev pub read_escape : Text → Part
read_escape [] = None
read_escape (c ∷ t) = read_escaped (escape_of c) c t

abbrev pub read_part : Quoting → Text → Part
read_part q [] = None
read_part q (c ∷ t) = if is_plain q c then Some (c, t) else if c == 0x5C && not q.raw then read_escape t else None

-- the code points of a string, and what follows it
abbrev pub Body : Type 0
Body = Option (List ℕ × Text)

abbrev pub with_value : ℕ → List ℕ × Text → List ℕ × Text
with_value v x = (v ∷ x.0, x.1)

abbrev pub then_body : (Text → Body) → Part → Body
then_body go None = None
then_body go (Some x) = option_map (with_value x.0) (go x.1)

abbrev pub body_turn : (Text → Body) → Quoting → Text → Option Text → Body
body_turn go q t (Some rest) = Some ([], rest)
body_turn go q t None = then_body go (read_part q t)

-- The number bounds how many parts are read: the length of the text is enough.
abbrev pub read_body : ℕ → Quoting → Text → Body
read_body zero q t = None
read_body (suc n) q t = body_turn (read_body n q) q t (after_mark q t)

abbrev pub in_lines : Bool → ℕ → Quoting
in_lines raw q = record { raw = raw; threefold = true; quote = q }

abbrev pub on_a_line : Bool → ℕ → Quoting
on_a_line raw q = record { raw = raw; threefold = false; quote = q }

abbrev pub whole_body : Quoting → Text → Body
whole_body q t = read_body (suc (length t)) q t

abbrev pub read_threefold : Bool → Text → Body
read_threefold raw (a ∷ b ∷ c ∷ t) = if is_quote a && (b == a && c == a) then whole_body (in_lines raw a) t else None
read_threefold raw _ = None

abbrev pub read_single : Bool → Text → Body
read_single raw [] = None
read_single raw (q ∷ t) = if is_quote q then whole_body (on_a_line raw q) t else None

-- Three quotes that no others close are an empty string and a quote.
abbrev pub or_body : Body → Body → Body
or_body (Some x) y = Some x
or_body None y = y

abbrev pub read_quoted : Bool → Text → Body
read_quoted raw t = or_body (read_threefold raw t) (read_single raw t)

abbrev pub read_string : Text → Body
read_string [] = None
read_string (c ∷ t) = if c ∈ "rR" then read_quoted true t else read_quoted false (c ∷ t)

abbrev pub text_found : List ℕ × Text → Lexeme × Text
text_found x = (string x.0, x.1)

abbrev pub bytes_found : List ℕ × Text → Lexeme × Text
bytes_found x = (bytes, x.1)

abbrev pub read_literal : Text → Found
read_literal [] = None
read_literal (c ∷ t) = if c ∈ "bB" then option_map bytes_found (read_string t) else option_map text_found (read_string (c ∷ t))

-- ---- symbols

abbrev pub one_symbol : Option Symbol → Text → Found
one_symbol None t = None
one_symbol (Some s) t = Some (symbol s, t)

abbrev pub two_symbol : Option Symbol → ℕ → ℕ → Text → Found
two_symbol (Some s) c d t = Some (symbol s, t)
two_symbol None c d t = one_symbol (one_sign c) (d ∷ t)

abbrev pub read_symbol : Text → Found
read_symbol [] = None
read_symbol (c ∷ []) = one_symbol (one_sign c) []
read_symbol (c ∷ d ∷ t) = two_symbol (two_signs c d) c d t

-- ---- all of them

abbrev pub read_lexeme : Text → Found
read_lexeme t = longer (read_literal t) (longer (read_word t) (longer (read_number t) (longer (read_blank t) (read_symbol t))))
