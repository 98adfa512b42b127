-- What is in the grammar is read, whatever follows that cannot go on it.
use Rattle.std.proofs.Common.{◌≡◌, ◌<◌, ℕ, zero, suc, List, [], ◌∷◌, ◌++◌, Bool, true, false, Some, None, option_map, if◌then◌else◌, length, refl, ap, ◌∙◌, arith}
use Rattle.cel_ast.specs.Syntax.{Text, Syntax, Key}
use Rattle.cel_ast.specs.Syntax as tree
use Rattle.cel_ast.specs.declared.operators.Unary.TheVariants as one
use Rattle.cel_read.specs.Lexemes as token
use Rattle.cel_read.specs.declared.token.Symbol.TheVariants.{Question, Colon, Comma, Dot, LeftParenthesis, RightParenthesis, LeftBracket, RightBracket, RightBrace}
use Rattle.cel_parse.specs.Forms.{Tokens, Chain, link, Stands, first, other, IsItem, an_item, Items, Closes, at_once, Optional, plain, marked}
use Rattle.cel_parse.specs.Forms as forms
use Rattle.cel_parse.specs.Words.{signed}
use Rattle.cel_parse.specs.Calls.{call_of, method_of}
use Rattle.cel_parse.specs.Grammar.{IsElement, an_element, IsKey, a_key, a_field, IsEntry, an_entry, IsPrimary, in_parentheses, a_list, a_map, selected, indexed, Goes, IsMember, a_member, IsUnary, unsigned, nots, minuses, Joins, join, IsJoined, joined, IsOfRank, IsChoice, no_choice, a_choice, ExprAt}
use Rattle.cel_parse.specs.Grammar as grammar
use Rattle.cel_parse.specs.Internal.Readers.{Found, none, found, and_then, go_on, given, after_parenthesis, after_bracket, after_brace, after_colon, after_question, after_comma, optional, Step, over, more, stepped, turn, repeat, loop, is_closing, first_item, other_item, item_where, is_nil, item_turn, item_step, read_items}
use Rattle.cel_parse.specs.Internal.Reading.{read_element, read_key, read_value, read_entry, read_arguments, read_elements, read_entries, from_start, read_primary, a_select, an_index, after_dot, next_of, read_next, step_if, next_step, read_member, no_sign, sign_of, after_sign, read_unary, join_turn, join_step, read_joined, read_rank, choose, read_choice, read_expr, with_front}
use Rattle.cel_parse.proofs.Stops.{Stops, Ends, stops_fewer, no_operator, operator_stops, ends_stops, no_question, is_open, not_open, not_on, NoType, no_type, is_shut, shut_ends, no_item, closing_item, starts_question, not_read}
use Rattle.cel_parse.proofs.CompleteStarts.{literal_starts, message_starts, call_starts, name_starts, primary_unsigned, nots_found, minuses_found}
use Rattle.cel_parse.proofs.Shorter.{Shorter, item_shorter, element_shorter, entry_shorter, goes_shorter, join_shorter, rank_shorter, expr_shorter}

-- reads the relation, before what may follow
abbrev pub Complete : {A : Type 0} → (Tokens → Type 0) → (Tokens → Found A) → (Tokens → A → Tokens → Type 0) → Type 0
Complete {A} P p R = (ws : Tokens) (e : A) (rest : Tokens) → R ws e rest → P rest → p ws ≡ found e rest

-- ---- loops

module _ {A : Type 0} (Link : A → Tokens → A → Tokens → Type 0) (step : A → Tokens → Step A) (Stop : Tokens → Type 0) (Inner : A → Tokens → Type 0)
    (ends : (a : A) (ws : Tokens) → Stop ws → Inner a ws) (begins : (a : A) (ws : Tokens) (b : A) (us : Tokens) → Link a ws b us → Inner a ws)
    (reads : (a : A) (ws : Tokens) (b : A) (us : Tokens) → Link a ws b us → Inner b us → step a ws ≡ more b us) (stops : (a : A) (ws : Tokens) → Stop ws → step a ws ≡ over)
    (shorter : (a : A) (ws : Tokens) (b : A) (us : Tokens) → Link a ws b us → length us < length ws) where
  pub chain_inner : (a : A) (ws : Tokens) (e : A) (rest : Tokens) → Chain A Link a ws e rest → Stop rest → Inner a ws
  chain_inner a ws e rest (forms.over a' ws') s = ends a' ws' s
  chain_inner a ws e rest (link a' ws' b us e' rest' l k) s = begins a' ws' b us l

  chain_reads : (a : A) (ws : Tokens) (e : A) (rest : Tokens) → Chain A Link a ws e rest → Stop rest → (n : ℕ) → length ws < n → repeat n step a ws ≡ found e rest
  chain_reads a ws e rest (forms.over a' ws') s zero lt = absurd (omega arith)
  chain_reads a ws e rest (forms.over a' ws') s (suc n) lt = ap (turn (repeat n step) a' ws') (stops a' ws' s)
  chain_reads a ws e rest (link a' ws' b us e' rest' l k) s zero lt = absurd (omega arith)
  chain_reads a ws e rest (link a' ws' b us e' rest' l k) s (suc n) lt =
      ap (turn (repeat n step) a' ws') (reads a' ws' b us l (chain_inner b us e' rest' k s)) ∙ chain_reads b us e' rest' k s n (omega (arith, shorter a' ws' b us l))

  pub chain_complete : (a : A) (ws : Tokens) (e : A) (rest : Tokens) → Chain A Link a ws e rest → Stop rest → loop step a ws ≡ found e rest
  chain_complete a ws e rest k s = chain_reads a ws e rest k s (suc (length ws)) (omega arith)

-- ---- items

first_found : (ws : Tokens) → no_item ws ≡ false → first_item ws ≡ Some ws
first_found (token.symbol Comma ∷ ws) h = cc
first_found ws h = ap (λ b. if b then None else Some ws) h

first_none : (ws : Tokens) → is_shut ws ≡ true → first_item ws ≡ None
first_none (token.symbol Comma ∷ ws) h = refl
first_none ws h = ap (λ b. if b then None else Some ws) h

other_none : (ws : Tokens) → is_shut ws ≡ true → other_item ws ≡ None
other_none (token.symbol Comma ∷ ws) h = ap (λ b. if b then None else Some ws) h
other_none _ h = refl

module _ {A : Type 0} (read : Tokens → Found A) (Item : Tokens → A → Tokens → Type 0) (inner : Complete Ends read Item) (small : Shorter Item)
    (shut : (ws : Tokens) → no_item ws ≡ true → read ws ≡ none) where
  abbrev Between : List A → Tokens → Type 0
  Between xs ws = is_nil xs ≡ false → Ends ws

  made_some : (xs : List A) (x : A) → is_nil (xs ++ x ∷ []) ≡ false
  made_some [] x = refl
  made_some (y ∷ xs) x = refl

  place_found : (xs : List A) (ws us : Tokens) (x : A) (vs : Tokens) → Stands A xs ws us → read us ≡ found x vs → item_where (is_nil xs) ws ≡ Some us
  place_found xs ws us x vs (first ws') h = first_found ws' (not_read (no_item ws') (read ws') x vs (shut ws') h)
  place_found xs ws us x vs (other y ys ws') h =
      ap (λ b. if b then None else Some ws') (not_read (is_closing ws') (read ws') x vs (λ q. shut ws' (closing_item ws' q)) h)

  item_reads : (xs : List A) (ws : Tokens) (ys : List A) (us : Tokens) → IsItem A Item xs ws ys us → Between ys us → item_step read xs ws ≡ more ys us
  item_reads xs ws ys us (an_item xs' ws' vs x us' s i) b =
      let h = inner vs x us' i (b (made_some xs' x)) in
      ap (item_turn read xs') (place_found xs' ws' vs x us' s h) ∙ ap (λ r. stepped (and_then r (λ y zs. found (xs' ++ y ∷ []) zs))) h

  item_begins : (xs : List A) (ws : Tokens) (ys : List A) (us : Tokens) → IsItem A Item xs ws ys us → Between xs ws
  item_begins xs ws ys us (an_item xs' ws' vs x us' (first vs') i) q = cc
  item_begins xs ws ys us (an_item xs' ws' vs x us' (other y ys' vs') i) q = (refl, refl)

  item_stops : (xs : List A) (ws : Tokens) → is_shut ws ≡ true → item_step read xs ws ≡ over
  item_stops [] ws s = ap (item_turn read []) (first_none ws s)
  item_stops (x ∷ xs) ws s = ap (item_turn read (x ∷ xs)) (other_none ws s)

  pub items_complete : (ws : Tokens) (xs : List A) (rest : Tokens) → Items A Item ws xs rest → is_shut rest ≡ true → read_items read ws ≡ found xs rest
  items_complete ws xs rest k s =
      chain_complete (IsItem A Item) (item_step read) (λ us. is_shut us ≡ true) Between (λ a us q _. shut_ends us q) item_begins item_reads item_stops (item_shorter Item small) [] ws xs rest k s

-- ---- primaries

bracket_shut : (us rest : Tokens) → Closes RightBracket us rest → is_shut us ≡ true
bracket_shut us rest (at_once ws) = refl
bracket_shut us rest (forms.after_comma ws) = refl

bracket_after : (us rest : Tokens) → Closes RightBracket us rest → after_bracket (after_comma us) ≡ Some rest
bracket_after us rest (at_once ws) = refl
bracket_after us rest (forms.after_comma ws) = refl

brace_shut : (us rest : Tokens) → Closes RightBrace us rest → is_shut us ≡ true
brace_shut us rest (at_once ws) = refl
brace_shut us rest (forms.after_comma ws) = refl

brace_after : (us rest : Tokens) → Closes RightBrace us rest → after_brace (after_comma us) ≡ Some rest
brace_after us rest (at_once ws) = refl
brace_after us rest (forms.after_comma ws) = refl

optional_plain : (ws : Tokens) → starts_question ws ≡ false → optional ws ≡ (false, ws)
optional_plain (token.symbol Question ∷ ws) h = cc
optional_plain _ h = refl

optional_found : (ws : Tokens) (o : Bool) (us : Tokens) → Optional ws o us → starts_question us ≡ false → optional ws ≡ (o, us)
optional_found ws o us (plain ws') h = optional_plain ws' h
optional_found ws o us (marked ws') h = refl

module _ (Expr : Tokens → Syntax → Tokens → Type 0) (read : Tokens → Found Syntax) (inner : Complete Ends read Expr) (small : Shorter Expr)
    (shut : (ws : Tokens) → no_item ws ≡ true → read ws ≡ none) (unmarked : (ws : Tokens) → starts_question ws ≡ true → read ws ≡ none) where
  element_reads : Complete Ends (read_element read) (IsElement Expr)
  element_reads ws e rest (an_element ws' o us x rest' p i) s =
      let h = inner us x rest' i s in
      let q = optional_found ws' o us p (not_read (starts_question us) (read us) x rest' (unmarked us) h) in
      ap (λ r. and_then (read r.1) (λ e us. found (r.0, e) us)) q ∙ ap (λ r. and_then r (λ e us. found (o, e) us)) h

  no_item_plain : (ws : Tokens) → no_item ws ≡ true → optional ws ≡ (false, ws)
  no_item_plain (token.symbol Question ∷ ws) h = cc
  no_item_plain _ h = refl

  element_shut : (ws : Tokens) → no_item ws ≡ true → read_element read ws ≡ none
  element_shut ws h =
      ap (λ r. and_then (read r.1) (λ e us. found (r.0, e) us)) (no_item_plain ws h) ∙ ap (λ r. and_then r (λ e us. found (false, e) us)) (shut ws h)

  key_reads : (m : Bool) → Complete Ends (read_key read m) (IsKey Expr m)
  key_reads m ws k rest (a_key ws' e rest' i) s = ap (λ r. and_then r (λ e us. found (tree.key e) us)) (inner ws' e rest' i s)
  key_reads m ws k rest (a_field f ws') s = refl

  key_shut : (m : Bool) (ws : Tokens) → no_item ws ≡ true → read_key read m ws ≡ none
  key_shut false ws h = ap (λ r. and_then r (λ e us. found (tree.key e) us)) (shut ws h)
  key_shut true (token.name f ∷ ws) h = cc
  key_shut true _ h = refl

  key_unmarked : (m : Bool) (ws : Tokens) → starts_question ws ≡ true → read_key read m ws ≡ none
  key_unmarked false ws h = ap (λ r. and_then r (λ e us. found (tree.key e) us)) (unmarked ws h)
  key_unmarked true (token.name f ∷ ws) h = cc
  key_unmarked true _ h = refl

  entry_reads : (m : Bool) → Complete Ends (read_entry read m) (IsEntry Expr m)
  entry_reads m ws e rest (an_entry ws' o us k vs x rest' p i j) s =
      let h = key_reads m us k (token.symbol Colon ∷ vs) i (refl, refl) in
      let q = optional_found ws' o us p (not_read (starts_question us) (read_key read m us) k (token.symbol Colon ∷ vs) (key_unmarked m us) h) in
      ap (λ r. and_then (read_key read m r.1) (λ k us. go_on (after_colon us) (read_value read r.0 k))) q
      ∙ ap (λ r. and_then r (λ k us. go_on (after_colon us) (read_value read o k))) h
      ∙ ap (λ r. and_then r (λ e us. found (o, k, e) us)) (inner vs x rest' j s)

  entry_shut : (m : Bool) (ws : Tokens) → no_item ws ≡ true → read_entry read m ws ≡ none
  entry_shut m ws h =
      ap (λ r. and_then (read_key read m r.1) (λ k us. go_on (after_colon us) (read_value read r.0 k))) (no_item_plain ws h)
      ∙ ap (λ r. and_then r (λ k us. go_on (after_colon us) (read_value read false k))) (key_shut m ws h)

  arguments_read : (ws : Tokens) (es : List Syntax) (rest : Tokens) → Items Syntax Expr ws es (token.symbol RightParenthesis ∷ rest) → read_arguments read ws ≡ found es rest
  arguments_read ws es rest k =
      ap (λ r. and_then r (λ es us. go_on (after_parenthesis us) (found es))) (items_complete read Expr inner small shut ws es (token.symbol RightParenthesis ∷ rest) k refl)

  elements_read : (ws : Tokens) (es : List (Bool × Syntax)) (us rest : Tokens) → Items (Bool × Syntax) (IsElement Expr) ws es us → Closes RightBracket us rest → read_elements read ws ≡ found es rest
  elements_read ws es us rest k c =
      ap (λ r. and_then r (λ es us. go_on (after_bracket (after_comma us)) (found es)))
      (items_complete (read_element read) (IsElement Expr) element_reads (element_shorter Expr small) element_shut ws es us k (bracket_shut us rest c))
      ∙ ap (λ o. go_on o (found es)) (bracket_after us rest c)

  entries_read : (m : Bool) (ws : Tokens) (es : List (Bool × Key × Syntax)) (us rest : Tokens) → Items (Bool × Key × Syntax) (IsEntry Expr m) ws es us → Closes RightBrace us rest
      → read_entries read m ws ≡ found es rest
  entries_read m ws es us rest k c =
      ap (λ r. and_then r (λ es us. go_on (after_brace (after_comma us)) (found es)))
      (items_complete (read_entry read m) (IsEntry Expr m) (entry_reads m) (entry_shorter Expr small m) (entry_shut m) ws es us k (brace_shut us rest c))
      ∙ ap (λ o. go_on o (found es)) (brace_after us rest c)

  primary_reads : (ws : Tokens) (e : Syntax) (rest : Tokens) → IsPrimary Expr ws e rest → NoType rest → is_open rest ≡ false → read_primary read ws ≡ found e rest
  primary_reads ws e rest (grammar.a_literal ws' c rest' l) t o = ap (from_start read) (literal_starts ws' c rest' l)
  primary_reads ws e rest (grammar.a_name ws' p x rest' l h) t o = ap (from_start read) (name_starts ws' p x rest' l t o h)
  primary_reads ws e rest (grammar.a_call ws' p f us es e' rest' l h i q) t o =
      ap (from_start read) (call_starts ws' p f us l h) ∙ ap (λ r. and_then r (λ es us. given (call_of (p ++ f) es) us)) (arguments_read us es rest' i) ∙ ap (λ c. given c rest') q
  primary_reads ws e rest (in_parentheses ws' e' rest' i) t o =
      ap (λ r. and_then r (λ e us. go_on (after_parenthesis us) (found e))) (inner ws' e' (token.symbol RightParenthesis ∷ rest') i (refl, refl))
  primary_reads ws e rest (a_list ws' es us rest' i c) t o = ap (λ r. and_then r (λ es us. found (tree.list (tree.elements es)) us)) (elements_read ws' es us rest' i c)
  primary_reads ws e rest (a_map ws' es us rest' i c) t o = ap (λ r. and_then r (λ es us. found (tree.map (tree.entries es)) us)) (entries_read false ws' es us rest' i c)
  primary_reads ws e rest (grammar.a_message ws' p us x vs es zs rest' l n i c) t o =
      ap (from_start read) (message_starts ws' p us x vs l n) ∙ ap (λ r. and_then r (λ es us. found (tree.message (p ++ x) (tree.entries es)) us)) (entries_read true vs es zs rest' i c)

  -- ---- members

  field_found : (f : Text) (us : Tokens) → is_open us ≡ false → after_dot (token.name f ∷ us) ≡ a_select false f us
  field_found f (token.symbol LeftParenthesis ∷ us) h = cc
  field_found f _ h = refl

  select_found : (ws : Tokens) (o : Bool) (f : Text) (us : Tokens) → Optional ws o (token.name f ∷ us) → is_open us ≡ false → next_of (token.symbol Dot ∷ ws) ≡ a_select o f us
  select_found ws o f us (plain ws') h = field_found f us h
  select_found ws o f us (marked ws') h = refl

  index_plain : (ws : Tokens) → starts_question ws ≡ false → next_of (token.symbol LeftBracket ∷ ws) ≡ an_index false ws
  index_plain (token.symbol Question ∷ ws) h = cc
  index_plain _ h = refl

  index_found : (ws : Tokens) (o : Bool) (us : Tokens) → Optional ws o us → starts_question us ≡ false → next_of (token.symbol LeftBracket ∷ ws) ≡ an_index o us
  index_found ws o us (plain ws') h = index_plain ws' h
  index_found ws o us (marked ws') h = refl

  goes_reads : (a : Syntax) (ws : Tokens) (b : Syntax) (us : Tokens) → Goes Expr a ws b us → is_open us ≡ false → next_step read a ws ≡ more b us
  goes_reads a ws b us (grammar.a_select a' ws' o f us' p) h = ap (λ n. stepped (read_next read a' n)) (select_found ws' o f us' p h)
  goes_reads a ws b us (grammar.a_method a' f ws' es us' e i q) h =
      ap (λ r. stepped (and_then r (λ es us. given (method_of a' f es) us))) (arguments_read ws' es us' i) ∙ ap (λ c. stepped (given c us')) q
  goes_reads a ws b us (grammar.an_index a' ws' o us' i vs p x) h =
      let k = inner us' i (token.symbol RightBracket ∷ vs) x (refl, refl) in
      ap (λ n. stepped (read_next read a' n)) (index_found ws' o us' p (not_read (starts_question us') (read us') i (token.symbol RightBracket ∷ vs) (unmarked us') k))
      ∙ ap (λ r. stepped (and_then r (λ i us. go_on (after_bracket us) (found (indexed o a' i))))) k

  goes_begins : (a : Syntax) (ws : Tokens) (b : Syntax) (us : Tokens) → Goes Expr a ws b us → is_open ws ≡ false
  goes_begins a ws b us (grammar.a_select a' ws' o f us' p) = refl
  goes_begins a ws b us (grammar.a_method a' f ws' es us' e i q) = refl
  goes_begins a ws b us (grammar.an_index a' ws' o us' i vs p x) = refl

  select_type : (ws : Tokens) (o : Bool) (f : Text) (us : Tokens) → Optional ws o (token.name f ∷ us) → NoType us → NoType (token.symbol Dot ∷ ws)
  select_type ws o f us (plain ws') t x = ap (option_map (with_front x)) (t f)
  select_type ws o f us (marked ws') t x = refl

  goes_type : (a : Syntax) (ws : Tokens) (b : Syntax) (us : Tokens) → Goes Expr a ws b us → NoType us → NoType ws
  goes_type a ws b us (grammar.a_select a' ws' o f us' p) t = select_type ws' o f us' p t
  goes_type a ws b us (grammar.a_method a' f ws' es us' e i q) t = λ x. refl
  goes_type a ws b us (grammar.an_index a' ws' o us' i vs p x) t = λ x. refl

  chain_type : (a : Syntax) (ws : Tokens) (e : Syntax) (rest : Tokens) → Chain Syntax (Goes Expr) a ws e rest → Stops 0 rest → NoType ws
  chain_type a ws e rest (forms.over a' ws') s = no_type ws' s
  chain_type a ws e rest (link a' ws' b us e' rest' l k) s = goes_type a' ws' b us l (chain_type b us e' rest' k s)

  chain_open : (a : Syntax) (ws : Tokens) (e : Syntax) (rest : Tokens) → Chain Syntax (Goes Expr) a ws e rest → Stops 0 rest → is_open ws ≡ false
  chain_open a ws e rest (forms.over a' ws') s = not_open ws' s
  chain_open a ws e rest (link a' ws' b us e' rest' l k) s = goes_begins a' ws' b us l

  goes_stop : (a : Syntax) (ws : Tokens) → Stops 0 ws → next_step read a ws ≡ over
  goes_stop a ws s = ap (λ b. step_if b (read_next read a (next_of ws))) (not_on ws s)

  chain_read : (a : Syntax) (ws : Tokens) (e : Syntax) (rest : Tokens) → Chain Syntax (Goes Expr) a ws e rest → Stops 0 rest → loop (next_step read) a ws ≡ found e rest
  chain_read a ws e rest k s =
      chain_complete (Goes Expr) (next_step read) (Stops 0) (λ b us. is_open us ≡ false) (λ b us q. not_open us q) goes_begins goes_reads goes_stop (goes_shorter Expr small) a ws e rest k s

  member_reads : Complete (Stops 0) (read_member read) (IsMember Expr)
  member_reads ws e rest (a_member ws' a us e' rest' p k) s =
      ap (λ r. and_then r (λ a us. loop (next_step read) a us)) (primary_reads ws' a us p (chain_type a us e' rest' k s) (chain_open a us e' rest' k s)) ∙ chain_read a us e' rest' k s

  member_unsigned : (ws : Tokens) (e : Syntax) (rest : Tokens) → IsMember Expr ws e rest → sign_of ws ≡ no_sign
  member_unsigned ws e rest (a_member ws' a us e' rest' p k) = primary_unsigned Expr ws' a us p

  unary_complete : Complete (Stops 0) (read_unary read) (IsUnary Expr)
  unary_complete ws e rest (unsigned ws' e' rest' m) s = ap (after_sign read ws') (member_unsigned ws' e' rest' m) ∙ member_reads ws' e' rest' m s
  unary_complete ws e rest (nots ws' n us e' rest' k m) s =
      ap (after_sign read ws') (nots_found ws' n us k (member_unsigned us e' rest' m)) ∙ ap (λ r. and_then r (λ e vs. found (signed one.Not n e) vs)) (member_reads us e' rest' m s)
  unary_complete ws e rest (minuses ws' n us e' rest' k h m) s =
      ap (after_sign read ws') (minuses_found ws' n us k h) ∙ ap (λ r. and_then r (λ e vs. found (signed one.Negate n e) vs)) (member_reads us e' rest' m s)

-- ---- operators of one rank

module _ (n : ℕ) (Operand : Tokens → Syntax → Tokens → Type 0) (p : Tokens → Found Syntax) (part : Complete (Stops n) p Operand) (small : Shorter Operand) where
  join_reads : (a : Syntax) (ws : Tokens) (b : Syntax) (us : Tokens) → Joins n Operand a ws b us → Stops n us → join_step n p a ws ≡ more b us
  join_reads a ws b us (join a' w o ws' c us' h x) s = ap (join_turn p a' (w ∷ ws')) h ∙ ap (λ r. stepped (and_then r (λ b us. found (tree.binary o a' b) us))) (part ws' c us' x s)

  join_begins : (a : Syntax) (ws : Tokens) (b : Syntax) (us : Tokens) → Joins n Operand a ws b us → Stops n ws
  join_begins a ws b us (join a' w o ws' c us' h x) = operator_stops n w o h

  join_stops : (a : Syntax) (ws : Tokens) → Stops (suc n) ws → join_step n p a ws ≡ over
  join_stops a ws s = ap (join_turn p a ws) (no_operator n ws s)

  joined_complete : Complete (Stops (suc n)) (read_joined n p) (IsJoined n Operand)
  joined_complete ws e rest (joined ws' a us e' rest' x k) s =
      let inner = chain_inner (Joins n Operand) (join_step n p) (Stops (suc n)) (λ b us. Stops n us) (λ b us q. stops_fewer n us q) join_begins join_reads join_stops (join_shorter n Operand small) a us e' rest' k s in
      let all = chain_complete (Joins n Operand) (join_step n p) (Stops (suc n)) (λ b us. Stops n us) (λ b us q. stops_fewer n us q) join_begins join_reads join_stops (join_shorter n Operand small) a us e' rest' k s in
      ap (λ r. and_then r (λ a us. loop (join_step n p) a us)) (part ws' a us x inner) ∙ all

rank_complete : (Expr : Tokens → Syntax → Tokens → Type 0) (read : Tokens → Found Syntax) → Complete Ends read Expr → Shorter Expr → ((ws : Tokens) → no_item ws ≡ true → read ws ≡ none)
    → ((ws : Tokens) → starts_question ws ≡ true → read ws ≡ none) → (n : ℕ) → Complete (Stops n) (read_rank read n) (IsOfRank Expr n)
rank_complete Expr read inner small shut unmarked zero = unary_complete Expr read inner small shut unmarked
rank_complete Expr read inner small shut unmarked (suc n) =
    joined_complete n (IsOfRank Expr n) (read_rank read n) (rank_complete Expr read inner small shut unmarked n) (rank_shorter Expr small n)

module _ (Or Expr : Tokens → Syntax → Tokens → Type 0) (low read : Tokens → Found Syntax) (or : Complete (Stops 5) low Or) (inner : Complete Ends read Expr) where
  choice_complete : Complete Ends (read_choice low read) (IsChoice Or Expr)
  choice_complete ws e rest (no_choice ws' e' rest' x) s =
      ap (λ r. and_then r (λ c us. choose low read c us (after_question us))) (or ws' e' rest' x (ends_stops rest' s)) ∙ ap (choose low read e' rest') (no_question rest' s)
  choice_complete ws e rest (a_choice ws' c us a vs b rest' x y z) s =
      let next = λ (a : Syntax) (ts : Tokens). go_on (after_colon ts) (λ zs. and_then (read zs) (λ b rest. found (tree.choice c a b) rest)) in
      ap (λ r. and_then r (λ c us. choose low read c us (after_question us))) (or ws' c (token.symbol Question ∷ us) x refl)
      ∙ ap (λ r. and_then r next) (or us a (token.symbol Colon ∷ vs) y refl)
      ∙ ap (λ r. and_then r (λ b rest. found (tree.choice c a b) rest)) (inner vs b rest' z s)

expr_shut : (d : ℕ) (ws : Tokens) → no_item ws ≡ true → read_expr d ws ≡ none
expr_shut zero ws h = refl
expr_shut (suc d) (token.symbol Comma ∷ ws) h = refl
expr_shut (suc d) (token.symbol RightParenthesis ∷ ws) h = refl
expr_shut (suc d) (token.symbol RightBracket ∷ ws) h = refl
expr_shut (suc d) (token.symbol RightBrace ∷ ws) h = refl
expr_shut (suc d) _ h = cc

expr_unmarked : (d : ℕ) (ws : Tokens) → starts_question ws ≡ true → read_expr d ws ≡ none
expr_unmarked zero ws h = refl
expr_unmarked (suc d) (token.symbol Question ∷ ws) h = refl
expr_unmarked (suc d) _ h = cc

pub expr_complete : (d : ℕ) → Complete Ends (read_expr d) (ExprAt d)
expr_complete zero ws e rest h s = elim h [ ]
expr_complete (suc d) ws e rest h s =
    choice_complete (IsOfRank (ExprAt d) 5) (ExprAt d) (read_rank (read_expr d) 5) (read_expr d)
    (rank_complete (ExprAt d) (read_expr d) (expr_complete d) (expr_shorter d) (expr_shut d) (expr_unmarked d) 5) (expr_complete d) ws e rest h s
