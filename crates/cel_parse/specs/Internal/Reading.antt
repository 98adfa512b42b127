-- Reading an expression as a function.
use Rattle.std.specs.Prelude.{◌^◌, ◌-ℤ◌, ℕ, zero, suc, pos, Bool, true, false, nat_lt, nat_le, List, [], ◌∷◌, ◌++◌, Option, Some, None, option_map, drop, if◌then◌else◌}
use Rattle.cel_ast.specs.Syntax.{Text, Constant, Syntax, Key}
use Rattle.cel_ast.specs.Syntax as tree
use Rattle.cel_ast.specs.declared.operators.Unary.TheVariants as one
use Rattle.cel_ast.specs.declared.operators.Binary.{Binary}
use Rattle.cel_read.specs.Lexemes as token
use Rattle.cel_read.specs.declared.token.Keyword.{Keyword}
use Rattle.cel_read.specs.declared.token.Keyword.TheVariants.{In, True, False, Null}
use Rattle.cel_read.specs.declared.token.Symbol.TheVariants.{Not, Minus, Question, Dot, LeftParenthesis, LeftBracket, LeftBrace}
use Rattle.cel_parse.specs.Forms.{Tokens}
use Rattle.cel_parse.specs.Words.{is_reserved, operator, signed}
use Rattle.cel_parse.specs.Calls.{call_of, method_of}
use Rattle.cel_parse.specs.Grammar.{selected, indexed}
use Rattle.cel_parse.specs.Internal.Readers.{Found, none, found, and_then, go_on, given, after_parenthesis, after_bracket, after_brace, after_colon, after_question, after_comma, optional, Step, over, stepped, loop, read_items}

-- ---- literals

abbrev pub small : ℕ → Tokens → Option (Constant × Tokens)
small n ws = if nat_lt n (2 ^ 63) then Some (tree.integer (pos n), ws) else None

abbrev pub negative : ℕ → Tokens → Option (Constant × Tokens)
negative n ws = if nat_le n (2 ^ 63) then Some (tree.integer (pos 0 -ℤ pos n), ws) else None

abbrev pub word_at : Keyword → Tokens → Option (Constant × Tokens)
word_at True ws = Some (tree.boolean true, ws)
word_at False ws = Some (tree.boolean false, ws)
word_at Null ws = Some (tree.null, ws)
word_at In ws = None

-- a token that is a literal, but for an integer and a word
abbrev pub plain_literal : token.Lexeme → Option Constant
plain_literal (token.unsigned t) = Some (tree.unsigned t)
plain_literal (token.double t) = Some (tree.double t)
plain_literal (token.string t) = Some (tree.string t)
plain_literal token.bytes = Some tree.bytes
plain_literal _ = None

abbrev pub before_rest : Tokens → Option Constant → Option (Constant × Tokens)
before_rest ws o = option_map (λ c. (c, ws)) o

abbrev pub literal_at : Tokens → Option (Constant × Tokens)
literal_at (token.integer n ∷ ws) = small n ws
literal_at (token.symbol Minus ∷ token.integer n ∷ ws) = negative n ws
literal_at (token.symbol Minus ∷ token.double t ∷ ws) = Some (tree.double (0x2D ∷ t), ws)
literal_at (token.keyword k ∷ ws) = word_at k ws
literal_at (w ∷ ws) = before_rest ws (plain_literal w)
literal_at [] = None

-- ---- names

abbrev pub leading : Bool → Text
leading true = 0x2E ∷ []
leading false = []

-- a part of the name of a message's type
pub data NamePart : Type 0 where
  last : Text → Tokens → NamePart
  before : Text → Tokens → NamePart
  neither : NamePart

abbrev pub name_part : Tokens → NamePart
name_part (token.name x ∷ token.symbol LeftBrace ∷ ws) = last x ws
name_part (token.name x ∷ token.symbol Dot ∷ ws) = before x ws
name_part _ = neither

abbrev pub with_beginning : Text → Text × Tokens → Text × Tokens
with_beginning x p = (x ++ p.0, p.1)

abbrev pub with_front : Text → Text × Tokens → Text × Tokens
with_front x p = (x ++ 0x2E ∷ p.0, p.1)

-- the name of a message's type, and what follows its brace
abbrev pub type_at : Tokens → Option (Text × Tokens)
type_at (token.name x ∷ token.symbol LeftBrace ∷ ws) = Some (x, ws)
type_at (token.name x ∷ token.symbol Dot ∷ ws) = option_map (with_front x) (type_at ws)
type_at _ = None

-- ---- primaries

-- what an expression begins with
pub data Start : Type 0 where
  a_literal : Constant → Tokens → Start
  a_message : Text → Tokens → Start
  a_call : Text → Tokens → Start
  a_name : Text → Tokens → Start
  opened : Tokens → Start
  listed : Tokens → Start
  mapped : Tokens → Start
  wrong : Start

abbrev pub identified : Bool → Start → Start
identified true s = wrong
identified false s = s

-- after the beginning of a name
abbrev pub ident_at : Text → Tokens → Start
ident_at p (token.name f ∷ token.symbol LeftParenthesis ∷ ws) = identified (is_reserved f) (a_call (p ++ f) ws)
ident_at p (token.name x ∷ ws) = identified (is_reserved x) (a_name (p ++ x) ws)
ident_at p _ = wrong

abbrev pub typed : Text → Tokens → Option (Text × Tokens) → Start
typed p ws None = ident_at p ws
typed p ws (Some x) = a_message (p ++ x.0) x.1

abbrev pub named : Text → Tokens → Start
named p ws = typed p ws (type_at ws)

abbrev pub valued : Option (Constant × Tokens) → Start
valued None = wrong
valued (Some x) = a_literal x.0 x.1

abbrev pub start_of : Tokens → Start
start_of (token.symbol Dot ∷ ws) = named (leading true) ws
start_of (token.name x ∷ ws) = named (leading false) (token.name x ∷ ws)
start_of (token.symbol LeftParenthesis ∷ ws) = opened ws
start_of (token.symbol LeftBracket ∷ ws) = listed ws
start_of (token.symbol LeftBrace ∷ ws) = mapped ws
start_of ws = valued (literal_at ws)

abbrev pub read_element : (Tokens → Found Syntax) → Tokens → Found (Bool × Syntax)
read_element read ws = and_then (read (optional ws).1) (λ e us. found ((optional ws).0, e) us)

abbrev pub read_field : Tokens → Found Key
read_field (token.name f ∷ ws) = found (tree.field f) ws
read_field _ = none

abbrev pub read_key : (Tokens → Found Syntax) → Bool → Tokens → Found Key
read_key read true ws = read_field ws
read_key read false ws = and_then (read ws) (λ e us. found (tree.key e) us)

abbrev pub read_value : (Tokens → Found Syntax) → Bool → Key → Tokens → Found (Bool × Key × Syntax)
read_value read o k ws = and_then (read ws) (λ e us. found (o, k, e) us)

abbrev pub read_entry : (Tokens → Found Syntax) → Bool → Tokens → Found (Bool × Key × Syntax)
read_entry read of_message ws = and_then (read_key read of_message (optional ws).1) (λ k us. go_on (after_colon us) (read_value read (optional ws).0 k))

-- each with the bracket that closes
abbrev pub read_arguments : (Tokens → Found Syntax) → Tokens → Found (List Syntax)
read_arguments read ws = and_then (read_items read ws) (λ es us. go_on (after_parenthesis us) (found es))

abbrev pub read_elements : (Tokens → Found Syntax) → Tokens → Found (List (Bool × Syntax))
read_elements read ws = and_then (read_items (read_element read) ws) (λ es us. go_on (after_bracket (after_comma us)) (found es))

abbrev pub read_entries : (Tokens → Found Syntax) → Bool → Tokens → Found (List (Bool × Key × Syntax))
read_entries read of_message ws = and_then (read_items (read_entry read of_message) ws) (λ es us. go_on (after_brace (after_comma us)) (found es))

abbrev pub from_start : (Tokens → Found Syntax) → Start → Found Syntax
from_start read (a_literal c ws) = found (tree.literal c) ws
from_start read (a_message x ws) = and_then (read_entries read true ws) (λ es us. found (tree.message x (tree.entries es)) us)
from_start read (a_call f ws) = and_then (read_arguments read ws) (λ es us. given (call_of f es) us)
from_start read (a_name x ws) = found (tree.name x) ws
from_start read (opened ws) = and_then (read ws) (λ e us. go_on (after_parenthesis us) (found e))
from_start read (listed ws) = and_then (read_elements read ws) (λ es us. found (tree.list (tree.elements es)) us)
from_start read (mapped ws) = and_then (read_entries read false ws) (λ es us. found (tree.map (tree.entries es)) us)
from_start read wrong = none

abbrev pub read_primary : (Tokens → Found Syntax) → Tokens → Found Syntax
read_primary read ws = from_start read (start_of ws)

-- ---- members

-- how a member goes on
pub data Next : Type 0 where
  a_select : Bool → Text → Tokens → Next
  a_method : Text → Tokens → Next
  an_index : Bool → Tokens → Next
  cut : Next
  ended : Next

abbrev pub after_dot : Tokens → Next
after_dot (token.name f ∷ token.symbol LeftParenthesis ∷ ws) = a_method f ws
after_dot (token.name f ∷ ws) = a_select false f ws
after_dot (token.symbol Question ∷ token.name f ∷ ws) = a_select true f ws
after_dot _ = cut

abbrev pub next_of : Tokens → Next
next_of (token.symbol Dot ∷ ws) = after_dot ws
next_of (token.symbol LeftBracket ∷ token.symbol Question ∷ ws) = an_index true ws
next_of (token.symbol LeftBracket ∷ ws) = an_index false ws
next_of _ = ended

abbrev pub read_next : (Tokens → Found Syntax) → Syntax → Next → Found Syntax
read_next read a (a_select o f ws) = found (selected o a f) ws
read_next read a (a_method f ws) = and_then (read_arguments read ws) (λ es us. given (method_of a f es) us)
read_next read a (an_index o ws) = and_then (read ws) (λ i us. go_on (after_bracket us) (found (indexed o a i)))
read_next read a cut = none
read_next read a ended = none

abbrev pub goes_on : Tokens → Bool
goes_on (token.symbol Dot ∷ ws) = true
goes_on (token.symbol LeftBracket ∷ ws) = true
goes_on _ = false

abbrev pub step_if : {A : Type 0} → Bool → Found A → Step A
step_if true x = stepped x
step_if false x = over

abbrev pub next_step : (Tokens → Found Syntax) → Syntax → Tokens → Step Syntax
next_step read a ws = step_if (goes_on ws) (read_next read a (next_of ws))

abbrev pub read_member : (Tokens → Found Syntax) → Tokens → Found Syntax
read_member read ws = and_then (read_primary read ws) (λ a us. loop (next_step read) a us)

-- ---- signs

abbrev pub one_more : ℕ × Tokens → ℕ × Tokens
one_more p = (suc p.0, p.1)

abbrev pub nots : Tokens → ℕ × Tokens
nots (token.symbol Not ∷ ws) = one_more (nots ws)
nots ws = (0, ws)

abbrev pub minuses : Tokens → ℕ × Tokens
minuses (token.symbol Minus ∷ ws) = one_more (minuses ws)
minuses ws = (0, ws)

-- the signs before an expression; the minus of a number is none of them
pub data Sign : Type 0 where
  no_sign : Sign
  not_sign : ℕ → Tokens → Sign
  minus_sign : ℕ → Tokens → Sign

abbrev pub sign_of : Tokens → Sign
sign_of (token.symbol Not ∷ ws) = not_sign (suc (nots ws).0) (nots ws).1
sign_of (token.symbol Minus ∷ token.integer n ∷ ws) = no_sign
sign_of (token.symbol Minus ∷ token.double t ∷ ws) = no_sign
sign_of (token.symbol Minus ∷ ws) = minus_sign (suc (minuses ws).0) (minuses ws).1
sign_of _ = no_sign

abbrev pub after_sign : (Tokens → Found Syntax) → Tokens → Sign → Found Syntax
after_sign read ws no_sign = read_member read ws
after_sign read ws (not_sign n us) = and_then (read_member read us) (λ e vs. found (signed one.Not n e) vs)
after_sign read ws (minus_sign n us) = and_then (read_member read us) (λ e vs. found (signed one.Negate n e) vs)

abbrev pub read_unary : (Tokens → Found Syntax) → Tokens → Found Syntax
read_unary read ws = after_sign read ws (sign_of ws)

-- ---- operators on two operands

abbrev pub operator_at : ℕ → Tokens → Option Binary
operator_at n [] = None
operator_at n (w ∷ ws) = operator n w

abbrev pub join_turn : (Tokens → Found Syntax) → Syntax → Tokens → Option Binary → Step Syntax
join_turn operand a ws None = over
join_turn operand a ws (Some o) = stepped (and_then (operand (drop 1 ws)) (λ b us. found (tree.binary o a b) us))

abbrev pub join_step : ℕ → (Tokens → Found Syntax) → Syntax → Tokens → Step Syntax
join_step n operand a ws = join_turn operand a ws (operator_at n ws)

abbrev pub read_joined : ℕ → (Tokens → Found Syntax) → Tokens → Found Syntax
read_joined n operand ws = and_then (operand ws) (λ a us. loop (join_step n operand) a us)

abbrev pub read_rank : (Tokens → Found Syntax) → ℕ → Tokens → Found Syntax
read_rank read zero = read_unary read
read_rank read (suc n) = read_joined n (read_rank read n)

abbrev pub choose : (Tokens → Found Syntax) → (Tokens → Found Syntax) → Syntax → Tokens → Option Tokens → Found Syntax
choose low read c ws None = found c ws
choose low read c ws (Some us) = and_then (low us) (λ a vs. go_on (after_colon vs) (λ zs. and_then (read zs) (λ b rest. found (tree.choice c a b) rest)))

abbrev pub read_choice : (Tokens → Found Syntax) → (Tokens → Found Syntax) → Tokens → Found Syntax
read_choice low read ws = and_then (low ws) (λ c us. choose low read c us (after_question us))

-- brackets and choices nest less deep than d
abbrev pub read_expr : ℕ → Tokens → Found Syntax
read_expr zero ws = none
read_expr (suc d) ws = read_choice (read_rank (read_expr d) 5) (read_expr d) ws
