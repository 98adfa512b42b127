-- What values of the code are to contracts.
use Rattle.std.specs.Global.{Global}
use Rattle.std.specs.Prelude.{String, List, map, chars, string_bytes}
use Rattle.cel_read.specs.Lexemes as spec
use Rattle.cel_read.specs.declared.token.Token.{Token}
use Rattle.cel_read.specs.declared.token.Token.TheVariants.{Name, Keyword, Integer, Unsigned, Double, Text, Bytes, Symbol}

-- the code points of a text
abbrev pub text_of : String Global → spec.Text
text_of s = chars (string_bytes s)

abbrev pub token_lexeme : Token → spec.Lexeme
token_lexeme (Name s) = spec.name (text_of s)
token_lexeme (Keyword k) = spec.keyword k
token_lexeme (Integer n) = spec.integer n
token_lexeme (Unsigned s) = spec.unsigned (text_of s)
token_lexeme (Double s) = spec.double (text_of s)
token_lexeme (Text s) = spec.string (text_of s)
token_lexeme Bytes = spec.bytes
token_lexeme (Symbol s) = spec.symbol s

abbrev pub token_lexemes : List Token → List spec.Lexeme
token_lexemes ts = map token_lexeme ts
