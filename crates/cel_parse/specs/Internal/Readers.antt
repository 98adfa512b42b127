-- Reading as functions, put together as forms are.
use Rattle.std.specs.Prelude.{ℕ, zero, suc, Bool, true, false, List, [], ◌∷◌, ◌++◌, Option, Some, None, length, if◌then◌else◌}
use Rattle.cel_read.specs.Lexemes.{symbol}
use Rattle.cel_read.specs.declared.token.Symbol.TheVariants.{Question, Colon, Comma, RightParenthesis, RightBracket, RightBrace}
use Rattle.cel_parse.specs.Forms.{Tokens}

-- what stands at the front of tokens, and what follows it
pub data Found (A : Type 0) : Type 0 where
  none : Found A
  found : A → Tokens → Found A

abbrev pub and_then : {A B : Type 0} → Found A → (A → Tokens → Found B) → Found B
and_then none f = none
and_then (found a ws) f = f a ws

abbrev pub go_on : {B : Type 0} → Option Tokens → (Tokens → Found B) → Found B
go_on None f = none
go_on (Some ws) f = f ws

abbrev pub given : {A : Type 0} → Option A → Tokens → Found A
given None ws = none
given (Some a) ws = found a ws

-- ---- what follows one token

abbrev pub after_parenthesis : Tokens → Option Tokens
after_parenthesis (symbol RightParenthesis ∷ ws) = Some ws
after_parenthesis _ = None

abbrev pub after_bracket : Tokens → Option Tokens
after_bracket (symbol RightBracket ∷ ws) = Some ws
after_bracket _ = None

abbrev pub after_brace : Tokens → Option Tokens
after_brace (symbol RightBrace ∷ ws) = Some ws
after_brace _ = None

abbrev pub after_colon : Tokens → Option Tokens
after_colon (symbol Colon ∷ ws) = Some ws
after_colon _ = None

abbrev pub after_question : Tokens → Option Tokens
after_question (symbol Question ∷ ws) = Some ws
after_question _ = None

-- what follows a comma, or all where there is none
abbrev pub after_comma : Tokens → Tokens
after_comma (symbol Comma ∷ ws) = ws
after_comma ws = ws

-- whether there is a `?`, and what follows it
abbrev pub optional : Tokens → Bool × Tokens
optional (symbol Question ∷ ws) = (true, ws)
optional ws = (false, ws)

-- ---- one thing after another

-- how what was made so far goes on
pub data Step (A : Type 0) : Type 0 where
  over : Step A
  broken : Step A
  more : A → Tokens → Step A

abbrev pub stepped : {A : Type 0} → Found A → Step A
stepped none = broken
stepped (found a ws) = more a ws

abbrev pub turn : {A : Type 0} → (A → Tokens → Found A) → A → Tokens → Step A → Found A
turn go a ws over = found a ws
turn go a ws broken = none
turn go a ws (more b us) = go b us

-- the number bounds the steps
abbrev pub repeat : {A : Type 0} → ℕ → (A → Tokens → Step A) → A → Tokens → Found A
repeat zero step a ws = none
repeat (suc n) step a ws = turn (repeat n step) a ws (step a ws)

-- each step takes a token
abbrev pub loop : {A : Type 0} → (A → Tokens → Step A) → A → Tokens → Found A
loop step a ws = repeat (suc (length ws)) step a ws

-- ---- items between commas

abbrev pub is_closing : Tokens → Bool
is_closing (symbol RightParenthesis ∷ ws) = true
is_closing (symbol RightBracket ∷ ws) = true
is_closing (symbol RightBrace ∷ ws) = true
is_closing _ = false

abbrev pub first_item : Tokens → Option Tokens
first_item (symbol Comma ∷ ws) = None
first_item ws = if is_closing ws then None else Some ws

abbrev pub other_item : Tokens → Option Tokens
other_item (symbol Comma ∷ ws) = if is_closing ws then None else Some ws
other_item _ = None

abbrev pub item_where : Bool → Tokens → Option Tokens
item_where true ws = first_item ws
item_where false ws = other_item ws

abbrev pub is_nil : {A : Type 0} → List A → Bool
is_nil [] = true
is_nil (x ∷ xs) = false

abbrev pub item_turn : {A : Type 0} → (Tokens → Found A) → List A → Option Tokens → Step (List A)
item_turn read xs None = over
item_turn read xs (Some ws) = stepped (and_then (read ws) (λ x us. found (xs ++ x ∷ []) us))

abbrev pub item_step : {A : Type 0} → (Tokens → Found A) → List A → Tokens → Step (List A)
item_step read xs ws = item_turn read xs (item_where (is_nil xs) ws)

abbrev pub read_items : {A : Type 0} → (Tokens → Found A) → Tokens → Found (List A)
read_items read ws = loop (item_step read) [] ws
