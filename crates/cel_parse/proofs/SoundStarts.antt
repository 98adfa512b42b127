-- What begins an expression, its signs, and how it goes on, as functions find them, are in the grammar.
use Rattle.std.proofs.Common.{◌≡◌, ◌^◌, ◌-ℤ◌, ℕ, suc, pos, ◌∷◌, ◌++◌, Bool, true, false, Option, Some, None, if◌then◌else◌, refl, subst, nat_lt}
use Rattle.std.specs.Prelude.{nat_le, ⊤}
use Rattle.cel_ast.specs.Syntax.{Text, Constant}
use Rattle.cel_ast.specs.Syntax as tree
use Rattle.cel_read.specs.Lexemes as token
use Rattle.cel_read.specs.declared.token.Keyword.TheVariants.{True, False, Null}
use Rattle.cel_read.specs.declared.token.Symbol.TheVariants.{Not, Minus, Question, Dot, LeftParenthesis, LeftBracket, LeftBrace}
use Rattle.cel_parse.specs.Forms.{Tokens, Optional, plain, marked}
use Rattle.cel_parse.specs.Words.{is_reserved}
use Rattle.cel_parse.specs.Literals.{IsLiteral, an_integer, a_negative, an_unsigned, a_double, a_negative_double, a_string, some_bytes, a_true, a_false, a_null}
use Rattle.cel_parse.specs.Grammar.{Leading, no_dot, a_dot, IsTypeName, last, before, Signs, one_sign, more_signs, has_minus}
use Rattle.cel_parse.specs.Internal.Reading.{literal_at, leading, with_front, type_at, Start, a_literal, a_message, a_call, a_name, opened, listed, mapped, wrong, identified, ident_at, typed, valued, start_of, Next, a_select, a_method, an_index, cut, ended, next_of, nots, minuses, Sign, no_sign, not_sign, minus_sign, sign_of}
use Rattle.cel_parse.proofs.Parts.{some_same, mapped_some, below_by, within_by}

-- ---- literals and names

small_sound : (n : ℕ) (ws : Tokens) (b : Bool) (r : Constant × Tokens) → nat_lt n (2 ^ 63) ≡ b → (if b then Some (tree.integer (pos n), ws) else None) ≡ Some r
    → IsLiteral (token.integer n ∷ ws) r.0 r.1
small_sound n ws true r q h = subst (λ z. IsLiteral (token.integer n ∷ ws) z.0 z.1) (some_same _ r h) (an_integer n ws (below_by n (2 ^ 63) q))
small_sound n ws false r q h = cc

negative_sound : (n : ℕ) (ws : Tokens) (b : Bool) (r : Constant × Tokens) → nat_le n (2 ^ 63) ≡ b → (if b then Some (tree.integer (pos 0 -ℤ pos n), ws) else None) ≡ Some r
    → IsLiteral (token.symbol Minus ∷ token.integer n ∷ ws) r.0 r.1
negative_sound n ws true r q h = subst (λ z. IsLiteral (token.symbol Minus ∷ token.integer n ∷ ws) z.0 z.1) (some_same _ r h) (a_negative n ws (within_by n (2 ^ 63) q))
negative_sound n ws false r q h = cc

literal_sound : (ws : Tokens) (r : Constant × Tokens) → literal_at ws ≡ Some r → IsLiteral ws r.0 r.1
literal_sound (token.integer n ∷ ws) r h = small_sound n ws (nat_lt n (2 ^ 63)) r refl h
literal_sound (token.symbol Minus ∷ token.integer n ∷ ws) r h = negative_sound n ws (nat_le n (2 ^ 63)) r refl h
literal_sound (token.symbol Minus ∷ token.double t ∷ ws) r h = subst (λ z. IsLiteral (token.symbol Minus ∷ token.double t ∷ ws) z.0 z.1) (some_same _ r h) (a_negative_double t ws)
literal_sound (token.unsigned t ∷ ws) r h = subst (λ z. IsLiteral (token.unsigned t ∷ ws) z.0 z.1) (some_same _ r h) (an_unsigned t ws)
literal_sound (token.double t ∷ ws) r h = subst (λ z. IsLiteral (token.double t ∷ ws) z.0 z.1) (some_same _ r h) (a_double t ws)
literal_sound (token.string t ∷ ws) r h = subst (λ z. IsLiteral (token.string t ∷ ws) z.0 z.1) (some_same _ r h) (a_string t ws)
literal_sound (token.bytes ∷ ws) r h = subst (λ z. IsLiteral (token.bytes ∷ ws) z.0 z.1) (some_same _ r h) (some_bytes ws)
literal_sound (token.keyword True ∷ ws) r h = subst (λ z. IsLiteral (token.keyword True ∷ ws) z.0 z.1) (some_same _ r h) (a_true ws)
literal_sound (token.keyword False ∷ ws) r h = subst (λ z. IsLiteral (token.keyword False ∷ ws) z.0 z.1) (some_same _ r h) (a_false ws)
literal_sound (token.keyword Null ∷ ws) r h = subst (λ z. IsLiteral (token.keyword Null ∷ ws) z.0 z.1) (some_same _ r h) (a_null ws)
literal_sound _ r h = cc

type_sound : (ws : Tokens) (r : Text × Tokens) → type_at ws ≡ Some r → IsTypeName ws r.0 r.1
type_sound (token.name y ∷ token.symbol LeftBrace ∷ ws) r h = subst (λ z. IsTypeName (token.name y ∷ token.symbol LeftBrace ∷ ws) z.0 z.1) (some_same _ r h) (last y ws)
type_sound (token.name y ∷ token.symbol Dot ∷ ws) r h =
    let m = mapped_some (with_front y) (type_at ws) r h in
    subst (λ z. IsTypeName (token.name y ∷ token.symbol Dot ∷ ws) z.0 z.1) m.2 (before y m.0.0 ws m.0.1 (type_sound ws m.0 m.1))
type_sound _ r h = cc

-- ---- what an expression begins with

-- what this beginning says of the tokens
abbrev pub StartIs : Tokens → Start → Type 0
StartIs ws (a_literal c us) = IsLiteral ws c us
StartIs ws (a_message x us) = (p : Text) × (vs : Tokens) × (y : Text) × Leading ws p vs × IsTypeName vs y us × (p ++ y ≡ x)
StartIs ws (a_call x us) = (p : Text) × (f : Text) × Leading ws p (token.name f ∷ token.symbol LeftParenthesis ∷ us) × (is_reserved f ≡ false) × (p ++ f ≡ x)
StartIs ws (a_name x us) = (p : Text) × (y : Text) × Leading ws p (token.name y ∷ us) × (is_reserved y ≡ false) × (p ++ y ≡ x)
StartIs ws (opened us) = ws ≡ token.symbol LeftParenthesis ∷ us
StartIs ws (listed us) = ws ≡ token.symbol LeftBracket ∷ us
StartIs ws (mapped us) = ws ≡ token.symbol LeftBrace ∷ us
StartIs ws wrong = ⊤

identified_sound : (ws : Tokens) (b : Bool) (s : Start) → (b ≡ false → StartIs ws s) → StartIs ws (identified b s)
identified_sound ws true s h = tt
identified_sound ws false s h = h refl

ident_sound : (ws : Tokens) (p : Text) (vs : Tokens) → Leading ws p vs → StartIs ws (ident_at p vs)
ident_sound ws p (token.name f ∷ token.symbol LeftParenthesis ∷ us) lead = identified_sound ws (is_reserved f) (a_call (p ++ f) us) (λ q. (p, f, lead, q, refl))
ident_sound ws p (token.name x ∷ us) lead = identified_sound ws (is_reserved x) (a_name (p ++ x) us) (λ q. (p, x, lead, q, refl))
ident_sound ws p _ lead = tt

typed_sound : (ws : Tokens) (p : Text) (vs : Tokens) (o : Option (Text × Tokens)) → type_at vs ≡ o → Leading ws p vs → StartIs ws (typed p vs o)
typed_sound ws p vs None q lead = ident_sound ws p vs lead
typed_sound ws p vs (Some r) q lead = (p, vs, r.0, lead, type_sound vs r q, refl)

valued_sound : (ws : Tokens) (o : Option (Constant × Tokens)) → literal_at ws ≡ o → StartIs ws (valued o)
valued_sound ws None q = tt
valued_sound ws (Some r) q = literal_sound ws r q

pub start_sound : (ws : Tokens) → StartIs ws (start_of ws)
start_sound (token.symbol Dot ∷ ws) = typed_sound (token.symbol Dot ∷ ws) (leading true) ws (type_at ws) refl (a_dot ws)
start_sound (token.name x ∷ ws) = typed_sound (token.name x ∷ ws) (leading false) (token.name x ∷ ws) (type_at (token.name x ∷ ws)) refl (no_dot (token.name x ∷ ws))
start_sound (token.symbol LeftParenthesis ∷ ws) = refl
start_sound (token.symbol LeftBracket ∷ ws) = refl
start_sound (token.symbol LeftBrace ∷ ws) = refl
start_sound ws = valued_sound ws (literal_at ws) refl

-- ---- how a member goes on

abbrev pub NextIs : Tokens → Next → Type 0
NextIs ws (a_select o f us) = (vs : Tokens) × (ws ≡ token.symbol Dot ∷ vs) × Optional vs o (token.name f ∷ us)
NextIs ws (a_method f us) = ws ≡ token.symbol Dot ∷ token.name f ∷ token.symbol LeftParenthesis ∷ us
NextIs ws (an_index o us) = (vs : Tokens) × (ws ≡ token.symbol LeftBracket ∷ vs) × Optional vs o us
NextIs ws cut = ⊤
NextIs ws ended = ⊤

pub next_sound : (ws : Tokens) → NextIs ws (next_of ws)
next_sound (token.symbol Dot ∷ token.name f ∷ token.symbol LeftParenthesis ∷ ws) = refl
next_sound (token.symbol Dot ∷ token.name f ∷ ws) = (token.name f ∷ ws, refl, plain (token.name f ∷ ws))
next_sound (token.symbol Dot ∷ token.symbol Question ∷ token.name f ∷ ws) = (token.symbol Question ∷ token.name f ∷ ws, refl, marked (token.name f ∷ ws))
next_sound (token.symbol LeftBracket ∷ token.symbol Question ∷ ws) = (token.symbol Question ∷ ws, refl, marked ws)
next_sound (token.symbol LeftBracket ∷ ws) = (ws, refl, plain ws)
next_sound _ = tt

-- ---- signs

abbrev pub SignIs : Tokens → Sign → Type 0
SignIs ws no_sign = ⊤
SignIs ws (not_sign n us) = Signs Not ws n us
SignIs ws (minus_sign n us) = Signs Minus ws n us × (has_minus n us ≡ false)

nots_sound : (ws : Tokens) → Signs Not (token.symbol Not ∷ ws) (suc (nots ws).0) (nots ws).1
nots_sound (token.symbol Not ∷ ws) = more_signs (token.symbol Not ∷ ws) (suc (nots ws).0) (nots ws).1 (nots_sound ws)
nots_sound ws = one_sign ws

minuses_sound : (ws : Tokens) → Signs Minus (token.symbol Minus ∷ ws) (suc (minuses ws).0) (minuses ws).1
minuses_sound (token.symbol Minus ∷ ws) = more_signs (token.symbol Minus ∷ ws) (suc (minuses ws).0) (minuses ws).1 (minuses_sound ws)
minuses_sound ws = one_sign ws

no_more_minus : (ws : Tokens) (n : ℕ) → has_minus (suc (suc n)) (minuses ws).1 ≡ false
no_more_minus (token.symbol Minus ∷ ws) n = no_more_minus ws n
no_more_minus _ n = refl

pub sign_sound : (ws : Tokens) → SignIs ws (sign_of ws)
sign_sound (token.symbol Not ∷ ws) = nots_sound ws
sign_sound (token.symbol Minus ∷ token.integer n ∷ ws) = tt
sign_sound (token.symbol Minus ∷ token.double t ∷ ws) = tt
sign_sound (token.symbol Minus ∷ token.symbol Minus ∷ ws) = (minuses_sound (token.symbol Minus ∷ ws), no_more_minus ws (minuses ws).0)
sign_sound (token.symbol Minus ∷ ws) = (minuses_sound ws, refl)
sign_sound _ = tt
