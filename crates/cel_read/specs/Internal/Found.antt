-- What values of the code are to private contracts.
use Rattle.std.specs.Prelude.{◌≤◌, ⊤, ℕ, List}
use Rattle.std.specs.Borrow.{Bor}
use Rattle.std.specs.Str.Parse.{digits_value}
use Rattle.cel_read.specs.Lexemes as spec
use Rattle.cel_read.specs.declared.lexeme.Lexeme.{Lexeme}
use Rattle.cel_read.specs.declared.lexeme.Lexeme.TheVariants.{Blank, Word, Integer, Unsigned, Double, Text, Bytes, Symbol}
use Rattle.cel_read.specs.declared.lexeme.Found.{Found}
use Rattle.cel_read.specs.declared.spelling.Numeral.{Numeral}
use Rattle.cel_read.specs.declared.strings.Body.{Body}
use Rattle.cel_read.specs.declared.strings.Quoting.{Quoting}
use Rattle.cel_read.specs.declared.escapes.Escape.{Escape}
use Rattle.cel_read.specs.declared.escapes.Escape.TheVariants.{StandsFor, InHexadecimal, InOctal}

abbrev pub integer_of : Numeral → spec.Lexeme
integer_of n = spec.integer (digits_value n.radix n.digits.now)

abbrev pub lexeme_of : Lexeme → spec.Lexeme
lexeme_of Blank = spec.blank
lexeme_of (Word t) = spec.word t.now
lexeme_of (Integer n) = integer_of n
lexeme_of (Unsigned t) = spec.unsigned t.now
lexeme_of (Double t) = spec.double t.now
lexeme_of (Text vs) = spec.string vs.items
lexeme_of Bytes = spec.bytes
lexeme_of (Symbol s) = spec.symbol s

abbrev pub found_of : Found → spec.Lexeme × spec.Text
found_of f = (lexeme_of f.lexeme, f.rest.now)

abbrev pub body_of : Body → List ℕ × spec.Text
body_of b = (b.values.items, b.rest.now)

abbrev pub quoting_of : Quoting → spec.Quoting
quoting_of q = record { raw = q.raw; threefold = q.threefold; quote = q.quote }

abbrev pub escape_kind : Escape → spec.Escape
escape_kind (StandsFor v) = spec.stands_for v
escape_kind (InHexadecimal n) = spec.in_hexadecimal n
escape_kind InOctal = spec.in_octal

-- no number of so many digits is above 32 bits
abbrev pub IsShort : Escape → Type 0
IsShort (InHexadecimal n) = (1 ≤ n) × (n ≤ 8)
IsShort _ = ⊤

-- both parts of a text that was cut
abbrev pub parts_of : Bor spec.Text × Bor spec.Text → spec.Text × spec.Text
parts_of x = (x.0.now, x.1.now)

-- a value and what follows it
abbrev pub part_of : ℕ × Bor spec.Text → ℕ × spec.Text
part_of x = (x.0, x.1.now)
