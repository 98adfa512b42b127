-- Literals: a value that one token is, or a number with the minus before it. Common Expression Language specification, "Syntax" (langdef.md).
use Rattle.std.specs.Prelude.{◌^◌, ◌<◌, ◌≤◌, ℕ, true, false, ◌∷◌, pos, ◌-ℤ◌}
use Rattle.cel_ast.specs.Syntax.{Text, Constant}
use Rattle.cel_ast.specs.Syntax as value
use Rattle.cel_read.specs.Lexemes.{integer, unsigned, double, string, bytes, keyword, symbol}
use Rattle.cel_read.specs.declared.token.Keyword.TheVariants.{True, False, Null}
use Rattle.cel_read.specs.declared.token.Symbol.TheVariants.{Minus}
use Rattle.cel_parse.specs.Forms.{Tokens}

pub data IsLiteral : Tokens → Constant → Tokens → Type 0 where
  an_integer : (n : ℕ) (ws : Tokens) → n < 2 ^ 63 → IsLiteral (integer n ∷ ws) (value.integer (pos n)) ws
  a_negative : (n : ℕ) (ws : Tokens) → n ≤ 2 ^ 63 → IsLiteral (symbol Minus ∷ integer n ∷ ws) (value.integer (pos 0 -ℤ pos n)) ws
  an_unsigned : (t : Text) (ws : Tokens) → IsLiteral (unsigned t ∷ ws) (value.unsigned t) ws
  a_double : (t : Text) (ws : Tokens) → IsLiteral (double t ∷ ws) (value.double t) ws
  a_negative_double : (t : Text) (ws : Tokens) → IsLiteral (symbol Minus ∷ double t ∷ ws) (value.double (0x2D ∷ t)) ws
  a_string : (t : Text) (ws : Tokens) → IsLiteral (string t ∷ ws) (value.string t) ws
  some_bytes : (ws : Tokens) → IsLiteral (bytes ∷ ws) value.bytes ws
  a_true : (ws : Tokens) → IsLiteral (keyword True ∷ ws) (value.boolean true) ws
  a_false : (ws : Tokens) → IsLiteral (keyword False ∷ ws) (value.boolean false) ws
  a_null : (ws : Tokens) → IsLiteral (keyword Null ∷ ws) value.null ws
