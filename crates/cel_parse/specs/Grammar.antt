-- The grammar: which tokens spell which expression. Common Expression Language specification, "Syntax" (langdef.md), whose rule stands above each
-- form; the marks of what is optional (`?`) as in the grammar of cel-go (CEL.g4). It says nothing of how expressions are read.
use Rattle.std.specs.Prelude.{◌≡◌, ℕ, zero, suc, Bool, true, false, List, [], ◌∷◌, ◌++◌, Some, if◌then◌else◌}
use Rattle.cel_ast.specs.Syntax.{Text, Constant, Syntax, Key}
use Rattle.cel_ast.specs.Syntax as tree
use Rattle.cel_ast.specs.declared.operators.Unary.TheVariants as one
use Rattle.cel_ast.specs.declared.operators.Binary.{Binary}
use Rattle.cel_ast.specs.declared.operators.Binary.TheVariants as two
use Rattle.cel_read.specs.Lexemes.{Lexeme}
use Rattle.cel_read.specs.Lexemes as token
use Rattle.cel_read.specs.declared.token.Symbol.{Symbol}
use Rattle.cel_read.specs.declared.token.Symbol.TheVariants.{Not, Minus, Question, Colon, Dot, LeftParenthesis, RightParenthesis, LeftBracket, RightBracket, LeftBrace, RightBrace}
use Rattle.cel_parse.specs.Forms.{Tokens, Chain, Items, Closes, Optional}
use Rattle.cel_parse.specs.Words.{is_reserved, operator, signed}
use Rattle.cel_parse.specs.Calls.{call_of, method_of}
use Rattle.cel_parse.specs.Literals.{IsLiteral}

-- [ "." ], as the beginning of a name
pub data Leading : Tokens → Text → Tokens → Type 0 where
  no_dot : (ws : Tokens) → Leading ws [] ws
  a_dot : (ws : Tokens) → Leading (token.symbol Dot ∷ ws) (0x2E ∷ []) ws

-- SELECTOR { "." SELECTOR } "{", the name of a message's type
pub data IsTypeName : Tokens → Text → Tokens → Type 0 where
  last : (x : Text) (ws : Tokens) → IsTypeName (token.name x ∷ token.symbol LeftBrace ∷ ws) x ws
  before : (x y : Text) (ws us : Tokens) → IsTypeName ws y us → IsTypeName (token.name x ∷ token.symbol Dot ∷ ws) (x ++ 0x2E ∷ y) us

-- [ "?" ] Expr
pub data IsElement (Expr : Tokens → Syntax → Tokens → Type 0) : Tokens → Bool × Syntax → Tokens → Type 0 where
  an_element : (ws : Tokens) (o : Bool) (us : Tokens) (e : Syntax) (rest : Tokens) → Optional ws o us → Expr us e rest → IsElement Expr ws (o, e) rest

-- what stands before the colon: an expression in a map, and in a message a field's name
pub data IsKey (Expr : Tokens → Syntax → Tokens → Type 0) : Bool → Tokens → Key → Tokens → Type 0 where
  a_key : (ws : Tokens) (e : Syntax) (rest : Tokens) → Expr ws e rest → IsKey Expr false ws (tree.key e) rest
  a_field : (f : Text) (ws : Tokens) → IsKey Expr true (token.name f ∷ ws) (tree.field f) ws

-- [ "?" ] Key ":" Expr
pub data IsEntry (Expr : Tokens → Syntax → Tokens → Type 0) (of_message : Bool) : Tokens → Bool × Key × Syntax → Tokens → Type 0 where
  an_entry : (ws : Tokens) (o : Bool) (us : Tokens) (k : Key) (vs : Tokens) (e : Syntax) (rest : Tokens) → Optional ws o us
      → IsKey Expr of_message us k (token.symbol Colon ∷ vs) → Expr vs e rest → IsEntry Expr of_message ws (o, k, e) rest

-- Primary ::= LITERAL | ["."] IDENT | ["."] IDENT "(" [Expr { "," Expr }] ")" | "(" Expr ")"
--           | "[" [Element { "," Element }] [","] "]" | "{" [Entry { "," Entry }] [","] "}"
--           | ["."] SELECTOR { "." SELECTOR } "{" [Field { "," Field }] [","] "}"
pub data IsPrimary (Expr : Tokens → Syntax → Tokens → Type 0) : Tokens → Syntax → Tokens → Type 0 where
  a_literal : (ws : Tokens) (c : Constant) (rest : Tokens) → IsLiteral ws c rest → IsPrimary Expr ws (tree.literal c) rest
  a_name : (ws : Tokens) (p x : Text) (rest : Tokens) → Leading ws p (token.name x ∷ rest) → is_reserved x ≡ false → IsPrimary Expr ws (tree.name (p ++ x)) rest
  a_call : (ws : Tokens) (p f : Text) (us : Tokens) (es : List Syntax) (e : Syntax) (rest : Tokens) → Leading ws p (token.name f ∷ token.symbol LeftParenthesis ∷ us)
      → is_reserved f ≡ false → Items Syntax Expr us es (token.symbol RightParenthesis ∷ rest) → call_of (p ++ f) es ≡ Some e → IsPrimary Expr ws e rest
  in_parentheses : (ws : Tokens) (e : Syntax) (rest : Tokens) → Expr ws e (token.symbol RightParenthesis ∷ rest) → IsPrimary Expr (token.symbol LeftParenthesis ∷ ws) e rest
  a_list : (ws : Tokens) (es : List (Bool × Syntax)) (us rest : Tokens) → Items (Bool × Syntax) (IsElement Expr) ws es us → Closes RightBracket us rest
      → IsPrimary Expr (token.symbol LeftBracket ∷ ws) (tree.list (tree.elements es)) rest
  a_map : (ws : Tokens) (es : List (Bool × Key × Syntax)) (us rest : Tokens) → Items (Bool × Key × Syntax) (IsEntry Expr false) ws es us → Closes RightBrace us rest
      → IsPrimary Expr (token.symbol LeftBrace ∷ ws) (tree.map (tree.entries es)) rest
  a_message : (ws : Tokens) (p : Text) (us : Tokens) (x : Text) (vs : Tokens) (es : List (Bool × Key × Syntax)) (zs rest : Tokens) → Leading ws p us → IsTypeName us x vs
      → Items (Bool × Key × Syntax) (IsEntry Expr true) vs es zs → Closes RightBrace zs rest → IsPrimary Expr ws (tree.message (p ++ x) (tree.entries es)) rest

abbrev pub selected : Bool → Syntax → Text → Syntax
selected o a f = if o then tree.optional_select a f else tree.select a f

abbrev pub indexed : Bool → Syntax → Syntax → Syntax
indexed o a i = tree.binary (if o then two.OptionalIndex else two.Index) a i

-- "." ["?"] SELECTOR | "." SELECTOR "(" [Expr { "," Expr }] ")" | "[" ["?"] Expr "]"
pub data Goes (Expr : Tokens → Syntax → Tokens → Type 0) : Syntax → Tokens → Syntax → Tokens → Type 0 where
  a_select : (a : Syntax) (ws : Tokens) (o : Bool) (f : Text) (us : Tokens) → Optional ws o (token.name f ∷ us) → Goes Expr a (token.symbol Dot ∷ ws) (selected o a f) us
  a_method : (a : Syntax) (f : Text) (ws : Tokens) (es : List Syntax) (us : Tokens) (e : Syntax) → Items Syntax Expr ws es (token.symbol RightParenthesis ∷ us)
      → method_of a f es ≡ Some e → Goes Expr a (token.symbol Dot ∷ token.name f ∷ token.symbol LeftParenthesis ∷ ws) e us
  an_index : (a : Syntax) (ws : Tokens) (o : Bool) (us : Tokens) (i : Syntax) (vs : Tokens) → Optional ws o us → Expr us i (token.symbol RightBracket ∷ vs)
      → Goes Expr a (token.symbol LeftBracket ∷ ws) (indexed o a i) vs

-- Member ::= Primary { "." ["?"] SELECTOR | "." SELECTOR "(" .. ")" | "[" ["?"] Expr "]" }
pub data IsMember (Expr : Tokens → Syntax → Tokens → Type 0) : Tokens → Syntax → Tokens → Type 0 where
  a_member : (ws : Tokens) (a : Syntax) (us : Tokens) (e : Syntax) (rest : Tokens) → IsPrimary Expr ws a us → Chain Syntax (Goes Expr) a us e rest → IsMember Expr ws e rest

-- so many signs
pub data Signs (s : Symbol) : Tokens → ℕ → Tokens → Type 0 where
  one_sign : (ws : Tokens) → Signs s (token.symbol s ∷ ws) 1 ws
  more_signs : (ws : Tokens) (n : ℕ) (us : Tokens) → Signs s ws n us → Signs s (token.symbol s ∷ ws) (suc n) us

-- The last of so many minus signs belongs to what follows: one before a number does, and one that more of them follow.
abbrev pub has_minus : ℕ → Tokens → Bool
has_minus n (token.symbol Minus ∷ ws) = true
has_minus (suc zero) (token.integer _ ∷ ws) = true
has_minus (suc zero) (token.double _ ∷ ws) = true
has_minus _ _ = false

-- Unary ::= Member | "!" { "!" } Member | "-" { "-" } Member
pub data IsUnary (Expr : Tokens → Syntax → Tokens → Type 0) : Tokens → Syntax → Tokens → Type 0 where
  unsigned : (ws : Tokens) (e : Syntax) (rest : Tokens) → IsMember Expr ws e rest → IsUnary Expr ws e rest
  nots : (ws : Tokens) (n : ℕ) (us : Tokens) (e : Syntax) (rest : Tokens) → Signs Not ws n us → IsMember Expr us e rest → IsUnary Expr ws (signed one.Not n e) rest
  minuses : (ws : Tokens) (n : ℕ) (us : Tokens) (e : Syntax) (rest : Tokens) → Signs Minus ws n us → has_minus n us ≡ false → IsMember Expr us e rest
      → IsUnary Expr ws (signed one.Negate n e) rest

-- an operator of one rank, with its right side
pub data Joins (n : ℕ) (Operand : Tokens → Syntax → Tokens → Type 0) : Syntax → Tokens → Syntax → Tokens → Type 0 where
  join : (a : Syntax) (w : Lexeme) (o : Binary) (ws : Tokens) (b : Syntax) (us : Tokens) → operator n w ≡ Some o → Operand ws b us → Joins n Operand a (w ∷ ws) (tree.binary o a b) us

-- operands with operators of one rank between them; the first ones are joined first
pub data IsJoined (n : ℕ) (Operand : Tokens → Syntax → Tokens → Type 0) : Tokens → Syntax → Tokens → Type 0 where
  joined : (ws : Tokens) (a : Syntax) (us : Tokens) (e : Syntax) (rest : Tokens) → Operand ws a us → Chain Syntax (Joins n Operand) a us e rest → IsJoined n Operand ws e rest

-- an expression whose operators all bind more strongly than this rank
abbrev pub IsOfRank : (Tokens → Syntax → Tokens → Type 0) → ℕ → Tokens → Syntax → Tokens → Type 0
IsOfRank Expr zero = IsUnary Expr
IsOfRank Expr (suc n) = IsJoined n (IsOfRank Expr n)

-- Expr ::= Or [ "?" Or ":" Expr ]
pub data IsChoice (Or Expr : Tokens → Syntax → Tokens → Type 0) : Tokens → Syntax → Tokens → Type 0 where
  no_choice : (ws : Tokens) (e : Syntax) (rest : Tokens) → Or ws e rest → IsChoice Or Expr ws e rest
  a_choice : (ws : Tokens) (c : Syntax) (us : Tokens) (a : Syntax) (vs : Tokens) (b : Syntax) (rest : Tokens) → Or ws c (token.symbol Question ∷ us)
      → Or us a (token.symbol Colon ∷ vs) → Expr vs b rest → IsChoice Or Expr ws (tree.choice c a b) rest

-- an expression, with brackets and choices nested less deep than d, and what follows it
abbrev pub ExprAt : ℕ → Tokens → Syntax → Tokens → Type 0
ExprAt zero ws e rest = ⊥
ExprAt (suc d) ws e rest = IsChoice (IsOfRank (ExprAt d) 5) (ExprAt d) ws e rest

-- The tokens spell the expression.
abbrev pub IsExpr : ℕ → Tokens → Syntax → Type 0
IsExpr d ws e = ExprAt d ws e []
