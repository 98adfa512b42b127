-- What cannot go on an expression, and what begins none.
use Rattle.std.proofs.Common.{◌≡◌, ◌∙◌, ℕ, suc, List, [], ◌∷◌, Bool, true, false, ◌||◌, Option, Some, None, refl, sym, ap}
use Rattle.std.specs.Prelude.{⊤, nat_lt}
use Rattle.std.proofs.Common.{arith}
use Rattle.std.proofs.lemmas.Bool.Decides.{nat_tests}
use Rattle.cel_ast.specs.declared.operators.Binary.{Binary}
use Rattle.cel_read.specs.Lexemes.{Lexeme, name, symbol}
use Rattle.cel_read.specs.declared.token.Symbol.TheVariants.{Question, Comma, Dot, LeftParenthesis, RightParenthesis, LeftBracket, RightBracket, LeftBrace, RightBrace}
use Rattle.cel_parse.specs.Forms.{Tokens}
use Rattle.cel_parse.specs.Words.{rank, at_rank, operator}
use Rattle.cel_parse.specs.Internal.Readers.{Found, none, found, after_question, is_closing}
use Rattle.cel_parse.specs.Internal.Reading.{type_at, goes_on, operator_at}

abbrev pub is_post : Lexeme → Bool
is_post (symbol Dot) = true
is_post (symbol LeftBracket) = true
is_post (symbol LeftParenthesis) = true
is_post (symbol LeftBrace) = true
is_post _ = false

abbrev pub below : ℕ → Option (ℕ × Binary) → Bool
below n None = false
below n (Some p) = nat_lt p.0 n

abbrev pub goes_at : ℕ → Lexeme → Bool
goes_at n w = is_post w || below n (rank w)

-- the tokens do not go on an expression whose operators bind more strongly than the rank
abbrev pub Stops : ℕ → Tokens → Type 0
Stops n [] = ⊤
Stops n (w ∷ ws) = goes_at n w ≡ false

abbrev pub is_question : Lexeme → Bool
is_question (symbol Question) = true
is_question _ = false

-- nor any expression
abbrev pub Ends : Tokens → Type 0
Ends [] = ⊤
Ends (w ∷ ws) = (goes_at 5 w ≡ false) × (is_question w ≡ false)

-- ---- operators

fewer : (n : ℕ) (o : Option (ℕ × Binary)) (b : Bool) → (b || below (suc n) o) ≡ false → (b || below n o) ≡ false
fewer n None b h = h
fewer n (Some p) true h = h
fewer n (Some p) false h = grind (arith, nat_tests)

pub stops_fewer : (n : ℕ) (ws : Tokens) → Stops (suc n) ws → Stops n ws
stops_fewer n [] h = tt
stops_fewer n (w ∷ ws) h = fewer n (rank w) (is_post w) h

other_rank : (n : ℕ) (o : Option (ℕ × Binary)) (b : Bool) → (b || below (suc n) o) ≡ false → at_rank n o ≡ None
other_rank n None b h = refl
other_rank n (Some p) true h = cc
other_rank n (Some p) false h = grind (arith, nat_tests)

pub no_operator : (n : ℕ) (ws : Tokens) → Stops (suc n) ws → operator_at n ws ≡ None
no_operator n [] h = refl
no_operator n (w ∷ ws) h = other_rank n (rank w) (is_post w) h

not_below : (n : ℕ) (r : Option (ℕ × Binary)) (o : Binary) → at_rank n r ≡ Some o → below n r ≡ false
not_below n None o h = refl
not_below n (Some p) o h = grind (arith, nat_tests)

not_post : (n : ℕ) (w : Lexeme) (o : Binary) → operator n w ≡ Some o → is_post w ≡ false
not_post n (symbol Dot) o h = cc
not_post n (symbol LeftBracket) o h = cc
not_post n (symbol LeftParenthesis) o h = cc
not_post n (symbol LeftBrace) o h = cc
not_post n _ o h = refl

pub operator_stops : (n : ℕ) (w : Lexeme) (o : Binary) → operator n w ≡ Some o → goes_at n w ≡ false
operator_stops n w o h = ap (λ b. b || below n (rank w)) (not_post n w o h) ∙ not_below n (rank w) o h

pub ends_stops : (ws : Tokens) → Ends ws → Stops 5 ws
ends_stops [] h = tt
ends_stops (w ∷ ws) h = h.0

no_mark : (w : Lexeme) (ws : Tokens) → is_question w ≡ false → after_question (w ∷ ws) ≡ None
no_mark (symbol Question) ws h = cc
no_mark _ ws h = refl

pub no_question : (ws : Tokens) → Ends ws → after_question ws ≡ None
no_question [] h = refl
no_question (w ∷ ws) h = no_mark w ws h.1

-- ---- how a member goes on

either : (b c : Bool) → (b || c) ≡ false → b ≡ false
either true c h = h
either false c h = refl

post_stops : (n : ℕ) (w : Lexeme) → goes_at n w ≡ false → is_post w ≡ false
post_stops n w h = either (is_post w) (below n (rank w)) h

abbrev pub is_open : Tokens → Bool
is_open (symbol LeftParenthesis ∷ ws) = true
is_open _ = false

open_post : (w : Lexeme) (ws : Tokens) → is_post w ≡ false → is_open (w ∷ ws) ≡ false
open_post (symbol LeftParenthesis) ws h = h
open_post _ ws h = refl

pub not_open : (ws : Tokens) → Stops 0 ws → is_open ws ≡ false
not_open [] h = refl
not_open (w ∷ ws) h = open_post w ws (post_stops 0 w h)

goes_post : (w : Lexeme) (ws : Tokens) → is_post w ≡ false → goes_on (w ∷ ws) ≡ false
goes_post (symbol Dot) ws h = h
goes_post (symbol LeftBracket) ws h = h
goes_post _ ws h = refl

pub not_on : (ws : Tokens) → Stops 0 ws → goes_on ws ≡ false
not_on [] h = refl
not_on (w ∷ ws) h = goes_post w ws (post_stops 0 w h)

-- a name before the tokens begins no type of a message
abbrev pub NoType : Tokens → Type 0
NoType ws = (x : List ℕ) → type_at (name x ∷ ws) ≡ None

type_post : (w : Lexeme) (ws : Tokens) → is_post w ≡ false → NoType (w ∷ ws)
type_post (symbol Dot) ws h x = cc
type_post (symbol LeftBrace) ws h x = cc
type_post _ ws h x = refl

pub no_type : (ws : Tokens) → Stops 0 ws → NoType ws
no_type [] h = λ x. refl
no_type (w ∷ ws) h = type_post w ws (post_stops 0 w h)

-- ---- between brackets

-- a bracket that closes, with a comma before it or without
abbrev pub is_shut : Tokens → Bool
is_shut (symbol Comma ∷ ws) = is_closing ws
is_shut ws = is_closing ws

pub shut_ends : (ws : Tokens) → is_shut ws ≡ true → Ends ws
shut_ends (symbol Comma ∷ ws) h = (refl, refl)
shut_ends (symbol RightParenthesis ∷ ws) h = (refl, refl)
shut_ends (symbol RightBracket ∷ ws) h = (refl, refl)
shut_ends (symbol RightBrace ∷ ws) h = (refl, refl)
shut_ends _ h = cc

-- no item begins
abbrev pub no_item : Tokens → Bool
no_item (symbol Comma ∷ ws) = true
no_item ws = is_closing ws

pub closing_item : (ws : Tokens) → is_closing ws ≡ true → no_item ws ≡ true
closing_item (symbol Comma ∷ ws) h = refl
closing_item _ h = h

abbrev pub starts_question : Tokens → Bool
starts_question (symbol Question ∷ ws) = true
starts_question _ = false

-- what is read is not what is not read
pub not_read : {A : Type 0} (b : Bool) (x : Found A) (e : A) (us : Tokens) → (b ≡ true → x ≡ none) → x ≡ found e us → b ≡ false
not_read true x e us h k = let q : none ≡ found e us = sym (h refl) ∙ k in cc
not_read false x e us h k = refl
