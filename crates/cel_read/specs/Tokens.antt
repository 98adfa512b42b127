-- The tokens of a text: it is cut into lexemes from the front, each as long as can be, and those that are not blank are its tokens. Common
-- Expression Language specification, "Syntax" (langdef.md).
use Rattle.std.specs.Prelude.{◌≡◌, ◌<◌, ◌≤◌, ◌^◌, ⊤, ℕ, Bool, true, false, List, [], ◌∷◌, ◌++◌, length, drop, nat_lt, not}
use Rattle.std.specs.List.{list_all}
use lib.Utf8.{scalar}
use Rattle.cel_read.specs.Lexemes.{Text, Lexeme, blank, integer, string, IsLexeme}
use Rattle.cel_read.specs.declared.fault.LexFault.{LexFault}
use Rattle.cel_read.specs.declared.fault.LexFault.TheVariants.{NoLexeme, IntegerTooLarge, NoCodePoint, NoMemory}

-- the lexeme at the front of a text, which none is longer than, and what follows it
pub record IsNext (t : Text) (l : Lexeme) (rest : Text) : Type 0 where
  pub spelling : Text
  pub cut : t ≡ spelling ++ rest
  pub lexeme : IsLexeme spelling l
  pub longest : (x y : Text) (m : Lexeme) → t ≡ x ++ y → IsLexeme x m → length x ≤ length spelling

-- The largest magnitude of an integer is that of the least one, which has a minus before it.
abbrev pub is_small : ℕ → Bool
is_small n = not (nat_lt (2 ^ 63) n)

-- A lexeme is a token where it is not blank, an integer is not too large, and a string has no surrogates and nothing above U+10FFFF.
abbrev pub is_token : Lexeme → Bool
is_token blank = false
is_token (integer n) = is_small n
is_token (string vs) = list_all scalar vs
is_token _ = true

-- the tokens that stand before what is left
pub data Reads : Text → List Lexeme → Text → Type 0 where
  nothing : (t : Text) → Reads t [] t
  a_blank : (t rest left : Text) (ls : List Lexeme) → IsNext t blank rest → Reads rest ls left → Reads t ls left
  a_token : (t rest left : Text) (l : Lexeme) (ls : List Lexeme) → IsNext t l rest → is_token l ≡ true → Reads rest ls left → Reads t (l ∷ ls) left

abbrev pub AreTokens : Text → List Lexeme → Type 0
AreTokens t ls = Reads t ls []

-- what follows the first p code points is what is left after some tokens
abbrev pub IsReached : Text → ℕ → Type 0
IsReached t p = (p < length t) × ((ls : List Lexeme) × Reads t ls (drop p t))

abbrev pub NoneBegins : Text → Type 0
NoneBegins t = (x y : Text) (l : Lexeme) → t ≡ x ++ y → IsLexeme x l → ⊥

-- what is wrong with a text, at which place
abbrev pub IsFault : Text → LexFault → Type 0
IsFault t (NoLexeme p) = IsReached t p × NoneBegins (drop p t)
IsFault t (IntegerTooLarge p) = IsReached t p × ((n : ℕ) × (rest : Text) × IsNext (drop p t) (integer n) rest × (is_small n ≡ false))
IsFault t (NoCodePoint p) = IsReached t p × ((vs : List ℕ) × (rest : Text) × IsNext (drop p t) (string vs) rest × (list_all scalar vs ≡ false))
IsFault t NoMemory = ⊤

-- a text at fault has no tokens
abbrev pub HasNoTokens : Text → LexFault → Type 0
HasNoTokens t NoMemory = ⊤
HasNoTokens t _ = (ls : List Lexeme) → AreTokens t ls → ⊥
