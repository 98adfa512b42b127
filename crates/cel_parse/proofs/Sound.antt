-- What is read is in the grammar.
use Rattle.std.proofs.Common.{◌≡◌, ℕ, zero, suc, List, [], ◌∷◌, ◌++◌, Bool, true, false, Option, Some, None, length, refl, sym, ap, subst, ◌∙◌}
use Rattle.cel_ast.specs.Syntax.{Text, Syntax, Key}
use Rattle.cel_ast.specs.Syntax as tree
use Rattle.cel_ast.specs.declared.operators.Binary.{Binary}
use Rattle.cel_ast.specs.declared.operators.Unary.TheVariants as one
use Rattle.cel_read.specs.Lexemes as token
use Rattle.cel_read.specs.declared.token.Symbol.TheVariants.{Dot, LeftParenthesis, RightParenthesis, LeftBracket, RightBracket, LeftBrace, RightBrace}
use Rattle.cel_parse.specs.Forms.{Tokens, Chain, link, Stands, first, other, IsItem, an_item, Items, Closes, Optional}
use Rattle.cel_parse.specs.Forms as forms
use Rattle.cel_parse.specs.Words.{operator, signed}
use Rattle.cel_parse.specs.Calls.{call_of, method_of}
use Rattle.cel_parse.specs.Grammar.{IsElement, an_element, IsKey, a_key, a_field, IsEntry, an_entry, IsPrimary, in_parentheses, a_list, a_map, selected, indexed, Goes, IsMember, a_member, IsUnary, unsigned, nots, minuses, Joins, join, IsJoined, joined, IsOfRank, IsChoice, no_choice, a_choice, ExprAt}
use Rattle.cel_parse.specs.Grammar as grammar
use Rattle.cel_parse.specs.Internal.Readers.{Found, found, and_then, go_on, given, after_parenthesis, after_bracket, after_brace, after_colon, after_question, after_comma, optional, Step, over, broken, more, turn, repeat, loop, item_where, is_nil, item_turn, item_step, read_items}
use Rattle.cel_parse.specs.Internal.Reading.{read_element, read_field, read_key, read_value, read_entry, read_arguments, read_elements, read_entries, Start, a_literal, a_message, a_call, a_name, opened, listed, mapped, wrong, start_of, from_start, read_primary, Next, a_select, a_method, an_index, cut, ended, next_of, read_next, goes_on, step_if, next_step, read_member, Sign, no_sign, not_sign, minus_sign, sign_of, after_sign, read_unary, join_turn, join_step, read_joined, read_rank, choose, read_choice, read_expr}
use Rattle.cel_parse.proofs.Parts.{then_found, go_on_found, found_left, found_right, given_found, stepped_more, at_found, parenthesis_is, bracket_is, colon_is, question_is, closes_bracket, closes_brace, optional_is, first_is, other_is}
use Rattle.cel_parse.proofs.SoundStarts.{StartIs, start_sound, NextIs, next_sound, SignIs, sign_sound}

abbrev pub Sound : {A : Type 0} → (Tokens → Found A) → (Tokens → A → Tokens → Type 0) → Type 0
Sound {A} p R = (ws : Tokens) (e : A) (rest : Tokens) → p ws ≡ found e rest → R ws e rest

-- ---- loops

module _ {A : Type 0} (Link : A → Tokens → A → Tokens → Type 0) (step : A → Tokens → Step A) (sound : (a : A) (ws : Tokens) (b : A) (us : Tokens) → step a ws ≡ more b us → Link a ws b us) where
  turn_sound : (go : A → Tokens → Found A) → ((a : A) (ws : Tokens) (e : A) (rest : Tokens) → go a ws ≡ found e rest → Chain A Link a ws e rest)
      → (a : A) (ws : Tokens) (s : Step A) (e : A) (rest : Tokens) → step a ws ≡ s → turn go a ws s ≡ found e rest → Chain A Link a ws e rest
  turn_sound go next a ws over e rest q h = at_found (Chain A Link a) ws a e ws rest h (forms.over a ws)
  turn_sound go next a ws broken e rest q h = cc
  turn_sound go next a ws (more b us) e rest q h = link a ws b us e rest (sound a ws b us q) (next b us e rest h)

  repeat_sound : (n : ℕ) (a : A) (ws : Tokens) (e : A) (rest : Tokens) → repeat n step a ws ≡ found e rest → Chain A Link a ws e rest
  repeat_sound zero a ws e rest h = cc
  repeat_sound (suc n) a ws e rest h = turn_sound (repeat n step) (repeat_sound n) a ws (step a ws) e rest refl h

-- ---- items

module _ {A : Type 0} (read : Tokens → Found A) (Item : Tokens → A → Tokens → Type 0) (inner : Sound read Item) where
  stands : (xs : List A) (ws at : Tokens) → item_where (is_nil xs) ws ≡ Some at → Stands A xs ws at
  stands [] ws at h = subst (λ z. Stands A [] z at) (sym (first_is ws at h)) (first at)
  stands (x ∷ xs) ws at h = subst (λ z. Stands A (x ∷ xs) z at) (sym (other_is ws at h)) (other x xs at)

  item_sound : (xs : List A) (ws : Tokens) (o : Option Tokens) (ys : List A) (us : Tokens) → item_where (is_nil xs) ws ≡ o → item_turn read xs o ≡ more ys us → IsItem A Item xs ws ys us
  item_sound xs ws None ys us q h = cc
  item_sound xs ws (Some at) ys us q h =
      let t = then_found (read at) (λ x vs. found (xs ++ x ∷ []) vs) ys us (stepped_more _ ys us h) in
      at_found (IsItem A Item xs) ws (xs ++ t.0 ∷ []) ys t.1 us t.3 (an_item xs ws at t.0 t.1 (stands xs ws at q) (inner at t.0 t.1 t.2))

  items_sound : (ws : Tokens) (xs : List A) (rest : Tokens) → read_items read ws ≡ found xs rest → Items A Item ws xs rest
  items_sound ws xs rest h =
      repeat_sound (IsItem A Item) (item_step read) (λ a ws' b us q. item_sound a ws' (item_where (is_nil a) ws') b us refl q) (suc (length ws)) [] ws xs rest h

-- ---- primaries

module _ (Expr : Tokens → Syntax → Tokens → Type 0) (read : Tokens → Found Syntax) (inner : Sound read Expr) where
  element_sound : Sound (read_element read) (IsElement Expr)
  element_sound ws e rest h =
      let t = then_found (read (optional ws).1) (λ e us. found ((optional ws).0, e) us) e rest h in
      at_found (IsElement Expr) ws ((optional ws).0, t.0) e t.1 rest t.3 (an_element ws (optional ws).0 (optional ws).1 t.0 t.1 (optional_is ws) (inner (optional ws).1 t.0 t.1 t.2))

  field_sound : (ws : Tokens) (k : Key) (rest : Tokens) → read_field ws ≡ found k rest → IsKey Expr true ws k rest
  field_sound (token.name f ∷ ws) k rest h = at_found (IsKey Expr true) (token.name f ∷ ws) (tree.field f) k ws rest h (a_field f ws)
  field_sound _ k rest h = cc

  key_sound : (m : Bool) → Sound (read_key read m) (IsKey Expr m)
  key_sound true ws k rest h = field_sound ws k rest h
  key_sound false ws k rest h =
      let t = then_found (read ws) (λ e us. found (tree.key e) us) k rest h in
      at_found (IsKey Expr false) ws (tree.key t.0) k t.1 rest t.3 (a_key ws t.0 t.1 (inner ws t.0 t.1 t.2))

  entry_sound : (m : Bool) → Sound (read_entry read m) (IsEntry Expr m)
  entry_sound m ws e rest h =
      let o = optional ws in
      let t = then_found (read_key read m o.1) (λ k us. go_on (after_colon us) (read_value read o.0 k)) e rest h in
      let g = go_on_found (after_colon t.1) (read_value read o.0 t.0) e rest t.3 in
      let v = then_found (read g.0) (λ e us. found (o.0, t.0, e) us) e rest g.2 in
      let k = subst (λ z. IsKey Expr m o.1 t.0 z) (colon_is t.1 g.0 g.1) (key_sound m o.1 t.0 t.1 t.2) in
      at_found (IsEntry Expr m) ws (o.0, t.0, v.0) e v.1 rest v.3 (an_entry ws o.0 o.1 t.0 g.0 v.0 v.1 (optional_is ws) k (inner g.0 v.0 v.1 v.2))

  arguments_sound : (ws : Tokens) (es : List Syntax) (rest : Tokens) → read_arguments read ws ≡ found es rest → Items Syntax Expr ws es (token.symbol RightParenthesis ∷ rest)
  arguments_sound ws es rest h =
      let t = then_found (read_items read ws) (λ es us. go_on (after_parenthesis us) (found es)) es rest h in
      let g = go_on_found (after_parenthesis t.1) (found t.0) es rest t.3 in
      let closing = parenthesis_is t.1 g.0 g.1 ∙ ap (λ z. token.symbol RightParenthesis ∷ z) (found_right _ _ _ _ g.2) in
      let items = items_sound read Expr inner ws t.0 t.1 t.2 in
      subst (λ z. Items Syntax Expr ws z (token.symbol RightParenthesis ∷ rest)) (found_left _ _ _ _ g.2) (subst (λ z. Items Syntax Expr ws t.0 z) closing items)

  elements_sound : (ws : Tokens) (es : List (Bool × Syntax)) (rest : Tokens) → read_elements read ws ≡ found es rest
      → (us : Tokens) × Items (Bool × Syntax) (IsElement Expr) ws es us × Closes RightBracket us rest
  elements_sound ws es rest h =
      let t = then_found (read_items (read_element read) ws) (λ es us. go_on (after_bracket (after_comma us)) (found es)) es rest h in
      let g = go_on_found (after_bracket (after_comma t.1)) (found t.0) es rest t.3 in
      let items = items_sound (read_element read) (IsElement Expr) element_sound ws t.0 t.1 t.2 in
      (t.1, subst (λ z. Items (Bool × Syntax) (IsElement Expr) ws z t.1) (found_left _ _ _ _ g.2) items, subst (λ z. Closes RightBracket t.1 z) (found_right _ _ _ _ g.2) (closes_bracket t.1 g.0 g.1))

  entries_sound : (m : Bool) (ws : Tokens) (es : List (Bool × Key × Syntax)) (rest : Tokens) → read_entries read m ws ≡ found es rest
      → (us : Tokens) × Items (Bool × Key × Syntax) (IsEntry Expr m) ws es us × Closes RightBrace us rest
  entries_sound m ws es rest h =
      let t = then_found (read_items (read_entry read m) ws) (λ es us. go_on (after_brace (after_comma us)) (found es)) es rest h in
      let g = go_on_found (after_brace (after_comma t.1)) (found t.0) es rest t.3 in
      let items = items_sound (read_entry read m) (IsEntry Expr m) (entry_sound m) ws t.0 t.1 t.2 in
      (t.1, subst (λ z. Items (Bool × Key × Syntax) (IsEntry Expr m) ws z t.1) (found_left _ _ _ _ g.2) items, subst (λ z. Closes RightBrace t.1 z) (found_right _ _ _ _ g.2) (closes_brace t.1 g.0 g.1))

  from_sound : (ws : Tokens) (s : Start) (e : Syntax) (rest : Tokens) → StartIs ws s → from_start read s ≡ found e rest → IsPrimary Expr ws e rest
  from_sound ws (a_literal c us) e rest i h = at_found (IsPrimary Expr) ws (tree.literal c) e us rest h (grammar.a_literal ws c us i)
  from_sound ws (a_message x us) e rest i h =
      let t = then_found (read_entries read true us) (λ es us. found (tree.message x (tree.entries es)) us) e rest h in
      let s = entries_sound true us t.0 t.1 t.2 in
      let whole = grammar.a_message ws i.0 i.1 i.2 us t.0 s.0 t.1 i.3 i.4 s.1 s.2 in
      at_found (IsPrimary Expr) ws (tree.message x (tree.entries t.0)) e t.1 rest t.3 (subst (λ z. IsPrimary Expr ws (tree.message z (tree.entries t.0)) t.1) i.5 whole)
  from_sound ws (a_call x us) e rest i h =
      let t = then_found (read_arguments read us) (λ es us. given (call_of x es) us) e rest h in
      let g = given_found (call_of x t.0) t.1 e rest t.3 in
      let items = arguments_sound us t.0 t.1 t.2 in
      subst (λ z. IsPrimary Expr ws e z) g.1 (grammar.a_call ws i.0 i.1 us t.0 e t.1 i.2 i.3 items (ap (λ z. call_of z t.0) i.4 ∙ g.0))
  from_sound ws (a_name x us) e rest i h =
      at_found (IsPrimary Expr) ws (tree.name x) e us rest h (subst (λ z. IsPrimary Expr ws (tree.name z) us) i.4 (grammar.a_name ws i.0 i.1 us i.2 i.3))
  from_sound ws (opened us) e rest i h =
      let t = then_found (read us) (λ e us. go_on (after_parenthesis us) (found e)) e rest h in
      let g = go_on_found (after_parenthesis t.1) (found t.0) e rest t.3 in
      let closing = subst (λ z. Expr us t.0 z) (parenthesis_is t.1 g.0 g.1) (inner us t.0 t.1 t.2) in
      subst (λ z. IsPrimary Expr z e rest) (sym i) (at_found (IsPrimary Expr) (token.symbol LeftParenthesis ∷ us) t.0 e g.0 rest g.2 (in_parentheses us t.0 g.0 closing))
  from_sound ws (listed us) e rest i h =
      let t = then_found (read_elements read us) (λ es us. found (tree.list (tree.elements es)) us) e rest h in
      let s = elements_sound us t.0 t.1 t.2 in
      subst (λ z. IsPrimary Expr z e rest) (sym i) (at_found (IsPrimary Expr) (token.symbol LeftBracket ∷ us) (tree.list (tree.elements t.0)) e t.1 rest t.3 (a_list us t.0 s.0 t.1 s.1 s.2))
  from_sound ws (mapped us) e rest i h =
      let t = then_found (read_entries read false us) (λ es us. found (tree.map (tree.entries es)) us) e rest h in
      let s = entries_sound false us t.0 t.1 t.2 in
      subst (λ z. IsPrimary Expr z e rest) (sym i) (at_found (IsPrimary Expr) (token.symbol LeftBrace ∷ us) (tree.map (tree.entries t.0)) e t.1 rest t.3 (a_map us t.0 s.0 t.1 s.1 s.2))
  from_sound ws wrong e rest i h = cc

  primary_sound : Sound (read_primary read) (IsPrimary Expr)
  primary_sound ws e rest h = from_sound ws (start_of ws) e rest (start_sound ws) h

  -- ---- members

  step_found : (b : Bool) (x : Found Syntax) (a : Syntax) (us : Tokens) → step_if b x ≡ more a us → x ≡ found a us
  step_found true x a us h = stepped_more x a us h
  step_found false x a us h = cc

  from_next : (ws : Tokens) (a : Syntax) (s : Next) (b : Syntax) (us : Tokens) → NextIs ws s → read_next read a s ≡ found b us → Goes Expr a ws b us
  from_next ws a (a_select o f vs) b us i h =
      subst (λ z. Goes Expr a z b us) (sym i.1) (at_found (Goes Expr a) (token.symbol Dot ∷ i.0) (selected o a f) b vs us h (grammar.a_select a i.0 o f vs i.2))
  from_next ws a (a_method f vs) b us i h =
      let t = then_found (read_arguments read vs) (λ es us. given (method_of a f es) us) b us h in
      let g = given_found (method_of a f t.0) t.1 b us t.3 in
      let items = arguments_sound vs t.0 t.1 t.2 in
      subst (λ z. Goes Expr a z b us) (sym i) (subst (λ z. Goes Expr a (token.symbol Dot ∷ token.name f ∷ token.symbol LeftParenthesis ∷ vs) b z) g.1 (grammar.a_method a f vs t.0 t.1 b items g.0))
  from_next ws a (an_index o vs) b us i h =
      let t = then_found (read vs) (λ i us. go_on (after_bracket us) (found (indexed o a i))) b us h in
      let g = go_on_found (after_bracket t.1) (found (indexed o a t.0)) b us t.3 in
      let closing = subst (λ z. Expr vs t.0 z) (bracket_is t.1 g.0 g.1) (inner vs t.0 t.1 t.2) in
      subst (λ z. Goes Expr a z b us) (sym i.1) (at_found (Goes Expr a) (token.symbol LeftBracket ∷ i.0) (indexed o a t.0) b g.0 us g.2 (grammar.an_index a i.0 o vs t.0 g.0 i.2 closing))
  from_next ws a cut b us i h = cc
  from_next ws a ended b us i h = cc

  member_sound : Sound (read_member read) (IsMember Expr)
  member_sound ws e rest h =
      let t = then_found (read_primary read ws) (λ a us. loop (next_step read) a us) e rest h in
      let chain = repeat_sound (Goes Expr) (next_step read) (λ a ws' b us q. from_next ws' a (next_of ws') b us (next_sound ws') (step_found (goes_on ws') _ b us q)) (suc (length t.1)) t.0 t.1 e rest t.3 in
      a_member ws t.0 t.1 e rest (primary_sound ws t.0 t.1 t.2) chain

  sign_reads : (ws : Tokens) (s : Sign) (e : Syntax) (rest : Tokens) → SignIs ws s → after_sign read ws s ≡ found e rest → IsUnary Expr ws e rest
  sign_reads ws no_sign e rest i h = unsigned ws e rest (member_sound ws e rest h)
  sign_reads ws (not_sign n us) e rest i h =
      let t = then_found (read_member read us) (λ e vs. found (signed one.Not n e) vs) e rest h in
      at_found (IsUnary Expr) ws (signed one.Not n t.0) e t.1 rest t.3 (nots ws n us t.0 t.1 i (member_sound us t.0 t.1 t.2))
  sign_reads ws (minus_sign n us) e rest i h =
      let t = then_found (read_member read us) (λ e vs. found (signed one.Negate n e) vs) e rest h in
      at_found (IsUnary Expr) ws (signed one.Negate n t.0) e t.1 rest t.3 (minuses ws n us t.0 t.1 i.0 i.1 (member_sound us t.0 t.1 t.2))

  unary_sound : Sound (read_unary read) (IsUnary Expr)
  unary_sound ws e rest h = sign_reads ws (sign_of ws) e rest (sign_sound ws) h

-- ---- operators of one rank

module _ (n : ℕ) (Operand : Tokens → Syntax → Tokens → Type 0) (p : Tokens → Found Syntax) (part : Sound p Operand) where
  join_sound : (a : Syntax) (w : token.Lexeme) (ws : Tokens) (o : Option Binary) (b : Syntax) (us : Tokens) → operator n w ≡ o → join_turn p a (w ∷ ws) o ≡ more b us → Joins n Operand a (w ∷ ws) b us
  join_sound a w ws None b us q h = cc
  join_sound a w ws (Some o) b us q h =
      let t = then_found (p ws) (λ b us. found (tree.binary o a b) us) b us (stepped_more _ b us h) in
      at_found (Joins n Operand a) (w ∷ ws) (tree.binary o a t.0) b t.1 us t.3 (join a w o ws t.0 t.1 q (part ws t.0 t.1 t.2))

  step_sound : (a : Syntax) (ws : Tokens) (b : Syntax) (us : Tokens) → join_step n p a ws ≡ more b us → Joins n Operand a ws b us
  step_sound a [] b us h = cc
  step_sound a (w ∷ ws) b us h = join_sound a w ws (operator n w) b us refl h

  joined_sound : Sound (read_joined n p) (IsJoined n Operand)
  joined_sound ws e rest h =
      let t = then_found (p ws) (λ a us. loop (join_step n p) a us) e rest h in
      joined ws t.0 t.1 e rest (part ws t.0 t.1 t.2) (repeat_sound (Joins n Operand) (join_step n p) step_sound (suc (length t.1)) t.0 t.1 e rest t.3)

rank_sound : (Expr : Tokens → Syntax → Tokens → Type 0) (read : Tokens → Found Syntax) → Sound read Expr → (n : ℕ) → Sound (read_rank read n) (IsOfRank Expr n)
rank_sound Expr read inner zero = unary_sound Expr read inner
rank_sound Expr read inner (suc n) = joined_sound n (IsOfRank Expr n) (read_rank read n) (rank_sound Expr read inner n)

module _ (Or Expr : Tokens → Syntax → Tokens → Type 0) (low read : Tokens → Found Syntax) (or : Sound low Or) (inner : Sound read Expr) where
  choose_sound : (o : Option Tokens) (c : Syntax) (ws us : Tokens) (e : Syntax) (rest : Tokens) → after_question us ≡ o → Or ws c us → choose low read c us o ≡ found e rest → IsChoice Or Expr ws e rest
  choose_sound None c ws us e rest q front h = at_found (IsChoice Or Expr) ws c e us rest h (no_choice ws c us front)
  choose_sound (Some vs) c ws us e rest q front h =
      let t = then_found (low vs) (λ a ts. go_on (after_colon ts) (λ zs. and_then (read zs) (λ b rest. found (tree.choice c a b) rest))) e rest h in
      let g = go_on_found (after_colon t.1) (λ zs. and_then (read zs) (λ b rest. found (tree.choice c t.0 b) rest)) e rest t.3 in
      let u = then_found (read g.0) (λ b rest. found (tree.choice c t.0 b) rest) e rest g.2 in
      let condition = subst (λ z. Or ws c z) (question_is us vs q) front in
      let yes = subst (λ z. Or vs t.0 z) (colon_is t.1 g.0 g.1) (or vs t.0 t.1 t.2) in
      at_found (IsChoice Or Expr) ws (tree.choice c t.0 u.0) e u.1 rest u.3 (a_choice ws c vs t.0 g.0 u.0 u.1 condition yes (inner g.0 u.0 u.1 u.2))

  choice_sound : Sound (read_choice low read) (IsChoice Or Expr)
  choice_sound ws e rest h =
      let t = then_found (low ws) (λ c us. choose low read c us (after_question us)) e rest h in
      choose_sound (after_question t.1) t.0 ws t.1 e rest refl (or ws t.0 t.1 t.2) t.3

pub expr_sound : (d : ℕ) → Sound (read_expr d) (ExprAt d)
expr_sound zero ws e rest h = cc
expr_sound (suc d) ws e rest h = choice_sound (IsOfRank (ExprAt d) 5) (ExprAt d) (read_rank (read_expr d) 5) (read_expr d) (rank_sound (ExprAt d) (read_expr d) (expr_sound d) 5) (expr_sound d) ws e rest h
