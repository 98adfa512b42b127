-- What follows a form is shorter.
use Rattle.std.proofs.Common.{◌<◌, ◌≤◌, ℕ, zero, suc, List, [], Bool, true, false, length, arith}
use Rattle.cel_ast.specs.Syntax.{Text, Constant, Syntax}
use Rattle.cel_read.specs.declared.token.Symbol.{Symbol}
use Rattle.cel_parse.specs.Forms.{Tokens, Chain, over, link, first, other, IsItem, an_item, Items, Closes, at_once, after_comma, Optional, plain, marked}
use Rattle.cel_parse.specs.Literals.{IsLiteral, an_integer, a_negative, an_unsigned, a_double, a_negative_double, a_string, some_bytes, a_true, a_false, a_null}
use Rattle.cel_parse.specs.Grammar.{Leading, no_dot, a_dot, IsTypeName, last, before, IsElement, an_element, IsKey, a_key, a_field, IsEntry, an_entry, IsPrimary, a_literal, a_name, a_call, in_parentheses, a_list, a_map, a_message, Goes, a_select, a_method, an_index, IsMember, a_member, Signs, one_sign, more_signs, IsUnary, unsigned, nots, minuses, Joins, join, IsJoined, joined, IsOfRank, IsChoice, no_choice, a_choice, ExprAt}

abbrev pub Shorter : {A : Type 0} → (Tokens → A → Tokens → Type 0) → Type 0
Shorter {A} R = (ws : Tokens) (e : A) (rest : Tokens) → R ws e rest → length rest < length ws

pub chain_shorter : {A : Type 0} (Link : A → Tokens → A → Tokens → Type 0) → ((a : A) (ws : Tokens) (b : A) (us : Tokens) → Link a ws b us → length us < length ws)
    → (a : A) (ws : Tokens) (e : A) (rest : Tokens) → Chain A Link a ws e rest → length rest ≤ length ws
chain_shorter Link s a ws e rest (over a' ws') = omega arith
chain_shorter Link s a ws e rest (link a' ws' b us e' rest' l k) = omega (arith, s a' ws' b us l, chain_shorter Link s b us e' rest' k)

pub item_shorter : {A : Type 0} (Item : Tokens → A → Tokens → Type 0) → Shorter Item → (xs : List A) (ws : Tokens) (ys : List A) (us : Tokens) → IsItem A Item xs ws ys us → length us < length ws
item_shorter Item s xs ws ys us (an_item xs' ws' vs x us' (first vs') i) = s vs' x us' i
item_shorter Item s xs ws ys us (an_item xs' ws' vs x us' (other y ys' vs') i) = omega (arith, s vs' x us' i)

items_shorter : {A : Type 0} (Item : Tokens → A → Tokens → Type 0) → Shorter Item → (ws : Tokens) (xs : List A) (rest : Tokens) → Items A Item ws xs rest → length rest ≤ length ws
items_shorter {A} Item s ws xs rest k = chain_shorter (IsItem A Item) (item_shorter Item s) [] ws xs rest k

closes_shorter : (s : Symbol) (ws us : Tokens) → Closes s ws us → length us < length ws
closes_shorter s ws us (at_once us') = omega arith
closes_shorter s ws us (after_comma us') = omega arith

optional_shorter : (ws : Tokens) (o : Bool) (us : Tokens) → Optional ws o us → length us ≤ length ws
optional_shorter ws o us (plain ws') = omega arith
optional_shorter ws o us (marked ws') = omega arith

leading_shorter : (ws : Tokens) (p : Text) (us : Tokens) → Leading ws p us → length us ≤ length ws
leading_shorter ws p us (no_dot ws') = omega arith
leading_shorter ws p us (a_dot ws') = omega arith

type_shorter : (ws : Tokens) (x : Text) (us : Tokens) → IsTypeName ws x us → length us < length ws
type_shorter ws x us (last x' ws') = omega arith
type_shorter ws x us (before x' y ws' us' t) = omega (arith, type_shorter ws' y us' t)

literal_shorter : (ws : Tokens) (c : Constant) (us : Tokens) → IsLiteral ws c us → length us < length ws
literal_shorter ws c us (an_integer n ws' h) = omega arith
literal_shorter ws c us (a_negative n ws' h) = omega arith
literal_shorter ws c us (an_unsigned t ws') = omega arith
literal_shorter ws c us (a_double t ws') = omega arith
literal_shorter ws c us (a_negative_double t ws') = omega arith
literal_shorter ws c us (a_string t ws') = omega arith
literal_shorter ws c us (some_bytes ws') = omega arith
literal_shorter ws c us (a_true ws') = omega arith
literal_shorter ws c us (a_false ws') = omega arith
literal_shorter ws c us (a_null ws') = omega arith

module _ (Expr : Tokens → Syntax → Tokens → Type 0) (inner : Shorter Expr) where
  pub element_shorter : Shorter (IsElement Expr)
  element_shorter ws e rest (an_element ws' o us e' rest' p x) = omega (arith, optional_shorter ws' o us p, inner us e' rest' x)

  key_shorter : (m : Bool) → Shorter (IsKey Expr m)
  key_shorter m ws k rest (a_key ws' e rest' x) = inner ws' e rest' x
  key_shorter m ws k rest (a_field f ws') = omega arith

  pub entry_shorter : (m : Bool) → Shorter (IsEntry Expr m)
  entry_shorter m ws e rest (an_entry ws' o us k vs e' rest' p x y) = omega (arith, optional_shorter ws' o us p, key_shorter m us k _ x, inner vs e' rest' y)

  primary_shorter : Shorter (IsPrimary Expr)
  primary_shorter ws e rest (a_literal ws' c rest' l) = literal_shorter ws' c rest' l
  primary_shorter ws e rest (a_name ws' p x rest' l h) = omega (arith, leading_shorter ws' p _ l)
  primary_shorter ws e rest (a_call ws' p f us es e' rest' l h i q) = omega (arith, leading_shorter ws' p _ l, items_shorter Expr inner us es _ i)
  primary_shorter ws e rest (in_parentheses ws' e' rest' x) = omega (arith, inner ws' e' _ x)
  primary_shorter ws e rest (a_list ws' es us rest' i c) = omega (arith, items_shorter (IsElement Expr) element_shorter ws' es us i, closes_shorter _ us rest' c)
  primary_shorter ws e rest (a_map ws' es us rest' i c) = omega (arith, items_shorter (IsEntry Expr false) (entry_shorter false) ws' es us i, closes_shorter _ us rest' c)
  primary_shorter ws e rest (a_message ws' p us x vs es zs rest' l t i c) =
      omega (arith, leading_shorter ws' p us l, type_shorter us x vs t, items_shorter (IsEntry Expr true) (entry_shorter true) vs es zs i, closes_shorter _ zs rest' c)

  pub goes_shorter : (a : Syntax) (ws : Tokens) (b : Syntax) (us : Tokens) → Goes Expr a ws b us → length us < length ws
  goes_shorter a ws b us (a_select a' ws' o f us' p) = omega (arith, optional_shorter ws' o _ p)
  goes_shorter a ws b us (a_method a' f ws' es us' e i q) = omega (arith, items_shorter Expr inner ws' es _ i)
  goes_shorter a ws b us (an_index a' ws' o us' i vs p x) = omega (arith, optional_shorter ws' o us' p, inner us' i _ x)

  member_shorter : Shorter (IsMember Expr)
  member_shorter ws e rest (a_member ws' a us e' rest' p k) = omega (arith, primary_shorter ws' a us p, chain_shorter (Goes Expr) goes_shorter a us e' rest' k)

  signs_shorter : (s : Symbol) (ws : Tokens) (n : ℕ) (us : Tokens) → Signs s ws n us → length us < length ws
  signs_shorter s ws n us (one_sign ws') = omega arith
  signs_shorter s ws n us (more_signs ws' n' us' k) = omega (arith, signs_shorter s ws' n' us' k)

  unary_shorter : Shorter (IsUnary Expr)
  unary_shorter ws e rest (unsigned ws' e' rest' m) = member_shorter ws' e' rest' m
  unary_shorter ws e rest (nots ws' n us e' rest' s m) = omega (arith, signs_shorter _ ws' n us s, member_shorter us e' rest' m)
  unary_shorter ws e rest (minuses ws' n us e' rest' s h m) = omega (arith, signs_shorter _ ws' n us s, member_shorter us e' rest' m)

module _ (n : ℕ) (Operand : Tokens → Syntax → Tokens → Type 0) (part : Shorter Operand) where
  pub join_shorter : (a : Syntax) (ws : Tokens) (b : Syntax) (us : Tokens) → Joins n Operand a ws b us → length us < length ws
  join_shorter a ws b us (join a' w o ws' c us' h x) = omega (arith, part ws' c us' x)

  joined_shorter : Shorter (IsJoined n Operand)
  joined_shorter ws e rest (joined ws' a us e' rest' x k) = omega (arith, part ws' a us x, chain_shorter (Joins n Operand) join_shorter a us e' rest' k)

pub rank_shorter : (Expr : Tokens → Syntax → Tokens → Type 0) → Shorter Expr → (n : ℕ) → Shorter (IsOfRank Expr n)
rank_shorter Expr inner zero = unary_shorter Expr inner
rank_shorter Expr inner (suc n) = joined_shorter n (IsOfRank Expr n) (rank_shorter Expr inner n)

choice_shorter : (Or Expr : Tokens → Syntax → Tokens → Type 0) → Shorter Or → Shorter Expr → Shorter (IsChoice Or Expr)
choice_shorter Or Expr or inner ws e rest (no_choice ws' e' rest' x) = or ws' e' rest' x
choice_shorter Or Expr or inner ws e rest (a_choice ws' c us a vs b rest' x y z) = omega (arith, or ws' c _ x, or us a _ y, inner vs b rest' z)

pub expr_shorter : (d : ℕ) → Shorter (ExprAt d)
expr_shorter zero ws e rest h = elim h [ ]
expr_shorter (suc d) ws e rest h = choice_shorter (IsOfRank (ExprAt d) 5) (ExprAt d) (rank_shorter (ExprAt d) (expr_shorter d) 5) (expr_shorter d) ws e rest h
