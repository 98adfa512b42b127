-- Which token is kept of a lexeme, and what is refused.
use Rattle.std.specs.Global.{Global}
use Rattle.std.specs.Prelude.{◌≡◌, ◌≤◌, ◌^◌, ⊤, ℕ, List, [], ◌∷◌, ◌++◌, true, false, Option, Some, None, String}
use Rattle.std.specs.List.{list_all}
use Rattle.std.specs.Str.Parse.{digits_value}
use lib.Utf8.{scalar}
use Rattle.cel_read.specs.Lexemes.{Text, Lexeme, blank, name, keyword, integer, string, word}
use Rattle.cel_read.specs.Tokens.{is_small, is_token}
use Rattle.cel_read.specs.View.{text_of, token_lexeme}
use Rattle.cel_read.specs.declared.token.Token.{Token}
use Rattle.cel_read.specs.declared.token.Keyword.{Keyword}
use Rattle.cel_read.specs.declared.fault.LexFault.{LexFault}
use Rattle.cel_read.specs.declared.fault.LexFault.TheVariants.{NoLexeme, IntegerTooLarge, NoCodePoint, NoMemory}

-- the number that digits write, or none, where it has more than 64 bits
abbrev pub IsValueOf : ℕ → Text → Option ℕ → Type 0
IsValueOf radix digits None = 2 ^ 64 ≤ digits_value radix digits
IsValueOf radix digits (Some value) = value ≡ digits_value radix digits

abbrev pub IsKept : Lexeme → Option Token → Type 0
IsKept l None = l ≡ blank
IsKept l (Some t) = (token_lexeme t ≡ l) × (is_token l ≡ true)

abbrev pub IsRefused : Lexeme → ℕ → LexFault → Type 0
IsRefused l place (NoLexeme p) = ⊥
IsRefused l place (IntegerTooLarge p) = (p ≡ place) × ((n : ℕ) × (l ≡ integer n) × (is_small n ≡ false))
IsRefused l place (NoCodePoint p) = (p ≡ place) × ((vs : List ℕ) × (l ≡ string vs) × (list_all scalar vs ≡ false))
IsRefused l place NoMemory = ⊤

abbrev pub IsKeyword : Option Keyword → Text → Type 0
IsKeyword (Some k) t = word t ≡ keyword k
IsKeyword None t = word t ≡ name t

abbrev pub IsTextOf : List ℕ → Option (String Global) → Type 0
IsTextOf vs None = list_all scalar vs ≡ false
IsTextOf vs (Some s) = (text_of s ≡ vs) × (list_all scalar vs ≡ true)

-- the tokens with one more
abbrev pub kept : List Lexeme → Option Token → List Lexeme
kept ls None = ls
kept ls (Some t) = ls ++ token_lexeme t ∷ []
