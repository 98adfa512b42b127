-- Functions find what the grammar says: what begins an expression, and the signs before it.
use Rattle.std.proofs.Common.{◌≡◌, ◌<◌, ◌≤◌, ◌^◌, ◌-ℤ◌, ◌∙◌, ℕ, suc, pos, [], ◌∷◌, ◌++◌, Bool, true, false, Some, None, option_map, if◌then◌else◌, refl, ap, arith, nat_lt}
use Rattle.std.specs.Prelude.{nat_le}
use Rattle.std.proofs.lemmas.Bool.Decides.{nat_tests}
use Rattle.cel_ast.specs.Syntax.{Text, Constant, Syntax}
use Rattle.cel_ast.specs.Syntax as tree
use Rattle.cel_read.specs.Lexemes as token
use Rattle.cel_read.specs.declared.token.Symbol.TheVariants.{Not, Minus, LeftParenthesis}
use Rattle.cel_parse.specs.Forms.{Tokens}
use Rattle.cel_parse.specs.Words.{is_reserved}
use Rattle.cel_parse.specs.Literals.{IsLiteral, an_integer, a_negative, an_unsigned, a_double, a_negative_double, a_string, some_bytes, a_true, a_false, a_null}
use Rattle.cel_parse.specs.Grammar.{Leading, no_dot, a_dot, IsTypeName, last, before, IsPrimary, Signs, one_sign, more_signs, has_minus}
use Rattle.cel_parse.specs.Grammar as grammar
use Rattle.cel_parse.specs.Internal.Reading.{leading, with_front, type_at, Start, a_literal, a_message, a_call, a_name, identified, ident_at, typed, named, valued, start_of, one_more, nots, minuses, no_sign, not_sign, minus_sign, sign_of}
use Rattle.cel_parse.proofs.Stops.{is_open, NoType}

below_test : (n m : ℕ) → n < m → nat_lt n m ≡ true
below_test n m h = grind (arith, nat_tests)

within_test : (n m : ℕ) → n ≤ m → nat_le n m ≡ true
within_test n m h = grind (arith, nat_tests)

pub literal_starts : (ws : Tokens) (c : Constant) (us : Tokens) → IsLiteral ws c us → start_of ws ≡ a_literal c us
literal_starts ws c us (an_integer n ws' h) = ap (λ b. valued (if b then Some (tree.integer (pos n), ws') else None)) (below_test n (2 ^ 63) h)
literal_starts ws c us (a_negative n ws' h) = ap (λ b. valued (if b then Some (tree.integer (pos 0 -ℤ pos n), ws') else None)) (within_test n (2 ^ 63) h)
literal_starts ws c us (an_unsigned t ws') = refl
literal_starts ws c us (a_double t ws') = refl
literal_starts ws c us (a_negative_double t ws') = refl
literal_starts ws c us (a_string t ws') = refl
literal_starts ws c us (some_bytes ws') = refl
literal_starts ws c us (a_true ws') = refl
literal_starts ws c us (a_false ws') = refl
literal_starts ws c us (a_null ws') = refl

type_found : (ws : Tokens) (x : Text) (us : Tokens) → IsTypeName ws x us → type_at ws ≡ Some (x, us)
type_found ws x us (last x' ws') = refl
type_found ws x us (before x' y ws' us' t) = ap (option_map (with_front x')) (type_found ws' y us' t)

named_type : (p : Text) (ws : Tokens) (x : Text) (us : Tokens) → IsTypeName ws x us → named p ws ≡ a_message (p ++ x) us
named_type p ws x us t = ap (typed p ws) (type_found ws x us t)

plain_type : (ws : Tokens) (x : Text) (us : Tokens) → IsTypeName ws x us → start_of ws ≡ named (leading false) ws
plain_type ws x us (last x' ws') = refl
plain_type ws x us (before x' y ws' us' t) = refl

pub message_starts : (ws : Tokens) (p : Text) (us : Tokens) (x : Text) (vs : Tokens) → Leading ws p us → IsTypeName us x vs → start_of ws ≡ a_message (p ++ x) vs
message_starts ws p us x vs (no_dot ws') t = plain_type ws' x vs t ∙ named_type [] ws' x vs t
message_starts ws p us x vs (a_dot ws') t = named_type (0x2E ∷ []) ws' x vs t

not_reserved : (b : Bool) (s : Start) → b ≡ false → identified b s ≡ s
not_reserved b s h = ap (λ z. identified z s) h

pub call_starts : (ws : Tokens) (p f : Text) (us : Tokens) → Leading ws p (token.name f ∷ token.symbol LeftParenthesis ∷ us) → is_reserved f ≡ false → start_of ws ≡ a_call (p ++ f) us
call_starts ws p f us (no_dot ws') h = not_reserved (is_reserved f) (a_call f us) h
call_starts ws p f us (a_dot ws') h = not_reserved (is_reserved f) (a_call ((0x2E ∷ []) ++ f) us) h

name_found : (p x : Text) (rest : Tokens) → is_open rest ≡ false → ident_at p (token.name x ∷ rest) ≡ identified (is_reserved x) (a_name (p ++ x) rest)
name_found p x (token.symbol LeftParenthesis ∷ ws) h = cc
name_found p x _ h = refl

named_name : (p x : Text) (rest : Tokens) → NoType rest → is_open rest ≡ false → is_reserved x ≡ false → named p (token.name x ∷ rest) ≡ a_name (p ++ x) rest
named_name p x rest t o h = ap (typed p (token.name x ∷ rest)) (t x) ∙ name_found p x rest o ∙ not_reserved (is_reserved x) (a_name (p ++ x) rest) h

pub name_starts : (ws : Tokens) (p x : Text) (rest : Tokens) → Leading ws p (token.name x ∷ rest) → NoType rest → is_open rest ≡ false → is_reserved x ≡ false → start_of ws ≡ a_name (p ++ x) rest
name_starts ws p x rest (no_dot ws') t o h = named_name [] x rest t o h
name_starts ws p x rest (a_dot ws') t o h = named_name (0x2E ∷ []) x rest t o h

-- ---- signs

literal_unsigned : (ws : Tokens) (c : Constant) (us : Tokens) → IsLiteral ws c us → sign_of ws ≡ no_sign
literal_unsigned ws c us (an_integer n ws' h) = refl
literal_unsigned ws c us (a_negative n ws' h) = refl
literal_unsigned ws c us (an_unsigned t ws') = refl
literal_unsigned ws c us (a_double t ws') = refl
literal_unsigned ws c us (a_negative_double t ws') = refl
literal_unsigned ws c us (a_string t ws') = refl
literal_unsigned ws c us (some_bytes ws') = refl
literal_unsigned ws c us (a_true ws') = refl
literal_unsigned ws c us (a_false ws') = refl
literal_unsigned ws c us (a_null ws') = refl

leading_unsigned : (ws : Tokens) (p x : Text) (us : Tokens) → Leading ws p (token.name x ∷ us) → sign_of ws ≡ no_sign
leading_unsigned ws p x us (no_dot ws') = refl
leading_unsigned ws p x us (a_dot ws') = refl

type_named : (ws : Tokens) (x : Text) (us : Tokens) → IsTypeName ws x us → sign_of ws ≡ no_sign
type_named ws x us (last x' ws') = refl
type_named ws x us (before x' y ws' us' t) = refl

type_unsigned : (ws : Tokens) (p : Text) (us : Tokens) (x : Text) (vs : Tokens) → Leading ws p us → IsTypeName us x vs → sign_of ws ≡ no_sign
type_unsigned ws p us x vs (no_dot ws') t = type_named ws' x vs t
type_unsigned ws p us x vs (a_dot ws') t = refl

-- no primary begins with a sign but for the minus of a number
pub primary_unsigned : (Expr : Tokens → Syntax → Tokens → Type 0) (ws : Tokens) (e : Syntax) (rest : Tokens) → IsPrimary Expr ws e rest → sign_of ws ≡ no_sign
primary_unsigned Expr ws e rest (grammar.a_literal ws' c rest' l) = literal_unsigned ws' c rest' l
primary_unsigned Expr ws e rest (grammar.a_name ws' p x rest' l h) = leading_unsigned ws' p x rest' l
primary_unsigned Expr ws e rest (grammar.a_call ws' p f us es e' rest' l h i q) = leading_unsigned ws' p f _ l
primary_unsigned Expr ws e rest (grammar.in_parentheses ws' e' rest' x) = refl
primary_unsigned Expr ws e rest (grammar.a_list ws' es us rest' i c) = refl
primary_unsigned Expr ws e rest (grammar.a_map ws' es us rest' i c) = refl
primary_unsigned Expr ws e rest (grammar.a_message ws' p us x vs es zs rest' l t i c) = type_unsigned ws' p us x vs l t

unsigned_nots : (ws : Tokens) → sign_of ws ≡ no_sign → nots ws ≡ (0, ws)
unsigned_nots (token.symbol Not ∷ ws) h = cc
unsigned_nots _ h = refl

count_nots : (ws : Tokens) (n : ℕ) (us : Tokens) → Signs Not ws n us → nots us ≡ (0, us) → nots ws ≡ (n, us)
count_nots ws n us (one_sign ws') h = ap one_more h
count_nots ws n us (more_signs ws' n' us' s) h = ap one_more (count_nots ws' n' us' s h)

sign_nots : (ws : Tokens) (n : ℕ) (us : Tokens) → Signs Not ws n us → nots us ≡ (0, us) → sign_of ws ≡ not_sign n us
sign_nots ws n us (one_sign ws') h = ap (λ r. not_sign (suc r.0) r.1) h
sign_nots ws n us (more_signs ws' n' us' s) h = ap (λ r. not_sign (suc r.0) r.1) (count_nots ws' n' us' s h)

pub nots_found : (ws : Tokens) (n : ℕ) (us : Tokens) → Signs Not ws n us → sign_of us ≡ no_sign → sign_of ws ≡ not_sign n us
nots_found ws n us s h = sign_nots ws n us s (unsigned_nots us h)

no_minuses : (us : Tokens) (n : ℕ) → has_minus n us ≡ false → minuses us ≡ (0, us)
no_minuses (token.symbol Minus ∷ us) n h = cc
no_minuses _ n h = refl

count_minuses : (ws : Tokens) (n : ℕ) (us : Tokens) → Signs Minus ws n us → minuses us ≡ (0, us) → minuses ws ≡ (n, us)
count_minuses ws n us (one_sign ws') h = ap one_more h
count_minuses ws n us (more_signs ws' n' us' s) h = ap one_more (count_minuses ws' n' us' s h)

-- a minus before what is no number
one_minus : (ws : Tokens) → has_minus 1 ws ≡ false → sign_of (token.symbol Minus ∷ ws) ≡ minus_sign 1 ws
one_minus (token.integer n ∷ ws) h = cc
one_minus (token.double t ∷ ws) h = cc
one_minus (token.symbol Minus ∷ ws) h = cc
one_minus _ h = refl

-- more than one
two_minuses : (ws : Tokens) (n : ℕ) (us : Tokens) → Signs Minus ws n us → sign_of (token.symbol Minus ∷ ws) ≡ minus_sign (suc (minuses ws).0) (minuses ws).1
two_minuses ws n us (one_sign ws') = refl
two_minuses ws n us (more_signs ws' n' us' s) = refl

pub minuses_found : (ws : Tokens) (n : ℕ) (us : Tokens) → Signs Minus ws n us → has_minus n us ≡ false → sign_of ws ≡ minus_sign n us
minuses_found ws n us (one_sign ws') h = one_minus ws' h
minuses_found ws n us (more_signs ws' n' us' s) h = two_minuses ws' n' us' s ∙ ap (λ r. minus_sign (suc r.0) r.1) (count_minuses ws' n' us' s (no_minuses us' (suc n') h))
