-- Words that are no identifiers, and operators: which binds how strongly. Common Expression Language specification, "Syntax" (langdef.md).
use Rattle.std.specs.Prelude.{ℕ, Bool, ◌||◌, nat_eq, Option, Some, None, if◌then◌else◌, ◌%◌}
use Rattle.cel_ast.specs.Syntax.{Text, Syntax, unary}
use Rattle.cel_ast.specs.declared.operators.Unary.{Unary}
use Rattle.cel_ast.specs.declared.operators.Binary.{Binary}
use Rattle.cel_ast.specs.declared.operators.Binary.TheVariants as two
use Rattle.cel_read.specs.Lexemes.{Lexeme, symbol, keyword, spells}
use Rattle.cel_read.specs.declared.token.Keyword.TheVariants.{In}
use Rattle.cel_read.specs.declared.token.Symbol.{Symbol}
use Rattle.cel_read.specs.declared.token.Symbol.TheVariants as sign

-- a word that is no identifier, though it may be the name of a field
abbrev pub is_reserved : Text → Bool
is_reserved x =
    spells "as" x || spells "break" x || spells "const" x || spells "continue" x || spells "else" x || spells "for" x || spells "function" x
    || spells "if" x || spells "import" x || spells "let" x || spells "loop" x || spells "package" x || spells "namespace" x
    || spells "return" x || spells "var" x || spells "void" x || spells "while" x

-- an operator on two operands, and how loosely it binds: `*` the least, `||` the most
abbrev pub symbol_rank : Symbol → Option (ℕ × Binary)
symbol_rank sign.Star = Some (0, two.Multiply)
symbol_rank sign.Slash = Some (0, two.Divide)
symbol_rank sign.Percent = Some (0, two.Modulo)
symbol_rank sign.Plus = Some (1, two.Add)
symbol_rank sign.Minus = Some (1, two.Subtract)
symbol_rank sign.Equal = Some (2, two.Equal)
symbol_rank sign.NotEqual = Some (2, two.NotEqual)
symbol_rank sign.Less = Some (2, two.Less)
symbol_rank sign.LessOrEqual = Some (2, two.LessOrEqual)
symbol_rank sign.Greater = Some (2, two.Greater)
symbol_rank sign.GreaterOrEqual = Some (2, two.GreaterOrEqual)
symbol_rank sign.And = Some (3, two.And)
symbol_rank sign.Or = Some (4, two.Or)
symbol_rank _ = None

abbrev pub rank : Lexeme → Option (ℕ × Binary)
rank (symbol s) = symbol_rank s
rank (keyword In) = Some (2, two.In)
rank _ = None

abbrev pub at_rank : ℕ → Option (ℕ × Binary) → Option Binary
at_rank n None = None
at_rank n (Some p) = if nat_eq p.0 n then Some p.1 else None

-- the operator of this rank that the token is
abbrev pub operator : ℕ → Lexeme → Option Binary
operator n w = at_rank n (rank w)

-- an expression after so many signs of one kind: two of them leave it as it is
abbrev pub signed : Unary → ℕ → Syntax → Syntax
signed o n e = if nat_eq (n % 2) 0 then e else unary o e
