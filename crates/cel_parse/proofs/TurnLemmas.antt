-- How loops of the code follow the steps of reading.
use Rattle.std.proofs.Common.{◌≡◌, ◌<◌, ◌∙◌, ℕ, suc, List, [], ◌∷◌, ◌++◌, Bool, true, false, Some, None, Result, map, length, drop, nat_eq, refl, sym, ap, subst, arith}
use Rattle.std.proofs.lemmas.Bool.Decides.{nat_tests}
use Rattle.std.proofs.lemmas.Result.{err_from_is_err_and}
use Rattle.std.specs.Result.{IsErrAnd}
use Rattle.std.specs.Borrow.{Bor}
use Rattle.cel_ast.specs.Syntax.{Syntax}
use Rattle.cel_ast.specs.Syntax as tree
use Rattle.cel_ast.specs.declared.operators.Binary.{Binary}
use Rattle.cel_read.specs.View.{token_lexemes}
use Rattle.cel_read.specs.declared.token.Token.{Token}
use Rattle.cel_parse.specs.Forms.{Tokens}
use Rattle.cel_parse.specs.Internal.Readers.{Found, none, found, and_then, after_question, more, stepped, loop, item_where, is_nil, item_turn, item_step, read_items}
use Rattle.cel_parse.specs.Internal.Reading.{goes_on, step_if, next_of, read_next, next_step, operator_at, join_turn, join_step, read_primary, read_member, read_rank, choose, read_expr}
use Rattle.cel_parse.specs.Internal.Answers.{Reads}
use Rattle.cel_parse.specs.declared.fault.Stopped.{Stopped}
use Rattle.cel_parse.specs.declared.fault.Stopped.TheVariants.{Before}
use Rattle.cel_parse.proofs.LoopLemmas.{Left, begun, left_over, left_broken, left_more}

pub reads_same : {V A : Type 0} (view : V → A) (x y : Found A) (r : Result (V × Bor (List Token)) Stopped) → x ≡ y → Reads view x r → Reads view y r
reads_same view x y r e h = subst (λ z. Reads view z r) e h

-- the exit of a `?`
pub reads_err : {V A : Type 0} (view : V → A) (whole : Found A) (r : Result (V × Bor (List Token)) Stopped) (f : Stopped) → IsErrAnd r (λ e. e ≡ f) → ((n : ℕ) → f ≡ Before n → whole ≡ none)
    → Reads view whole r
reads_err view whole r f h k =
    let p = err_from_is_err_and r h in
    subst (λ z. Reads view whole z) (sym p.1) (λ n q. k n (sym p.2 ∙ q))

-- ---- items

pub items_begun : {A : Type 0} (read : Tokens → Found A) (made : List A) (ts : List Token) → made ≡ [] → Left (item_step read) made (token_lexemes ts) (length ts) (read_items read (token_lexemes ts))
items_begun read made ts e = subst (λ z. Left (item_step read) z (token_lexemes ts) (length ts) (read_items read (token_lexemes ts))) (sym e) (begun (item_step read) [] ts)

item_read : {A : Type 0} (read : Tokens → Found A) (made : List A) (first : Bool) (ws at us : Tokens) (x : A) → first ≡ is_nil made → Some at ≡ item_where first ws → read at ≡ found x us
    → item_step read made ws ≡ more (made ++ x ∷ []) us
item_read read made first ws at us x f q r =
    ap (λ b. item_turn read made (item_where b ws)) (sym f) ∙ ap (item_turn read made) (sym q) ∙ ap (λ z. stepped (and_then z (λ y vs. found (made ++ y ∷ []) vs))) r

pub item_more : {A : Type 0} (read : Tokens → Found A) (made next : List A) (first : Bool) (ws at us : Tokens) (x : A) (n m : ℕ) (whole : Found (List A)) → first ≡ is_nil made
    → Some at ≡ item_where first ws → read at ≡ found x us → next ≡ made ++ x ∷ [] → m < n → Left (item_step read) made ws n whole → Left (item_step read) next us m whole
item_more read made next first ws at us x n m whole f q r e lt left =
    left_more (item_step read) made ws next us n m whole (item_read read made first ws at us x f q r ∙ ap (λ z. more z us) (sym e)) lt left

pub item_over : {A : Type 0} (read : Tokens → Found A) (made : List A) (first : Bool) (ws : Tokens) (n : ℕ) (whole : Found (List A)) → first ≡ is_nil made → None ≡ item_where first ws
    → Left (item_step read) made ws n whole → whole ≡ found made ws
item_over read made first ws n whole f q left =
    left_over (item_step read) made ws n whole (ap (λ b. item_turn read made (item_where b ws)) (sym f) ∙ ap (item_turn read made) (sym q)) left

pub item_broken : {A : Type 0} (read : Tokens → Found A) (made : List A) (first : Bool) (ws at : Tokens) (n : ℕ) (whole : Found (List A)) → first ≡ is_nil made → Some at ≡ item_where first ws
    → read at ≡ none → Left (item_step read) made ws n whole → whole ≡ none
item_broken read made first ws at n whole f q r left =
    left_broken (item_step read) made ws n whole
    (ap (λ b. item_turn read made (item_where b ws)) (sym f) ∙ ap (item_turn read made) (sym q) ∙ ap (λ z. stepped (and_then z (λ y vs. found (made ++ y ∷ []) vs))) r) left

pub is_nil_of : {A : Type 0} (made : List A) (len : ℕ) (b : Bool) → b ≡ nat_eq len 0 → len ≡ length made → b ≡ is_nil made
is_nil_of [] len b h e = h ∙ ap (λ n. nat_eq n 0) e
is_nil_of (x ∷ xs) len b h e = grind (arith, nat_tests, h, e)

nil_mapped : {B A : Type 0} (f : B → A) (made : List B) → is_nil made ≡ is_nil (map f made)
nil_mapped f [] = refl
nil_mapped f (x ∷ xs) = refl

pub is_first : {B A : Type 0} (f : B → A) (made : List B) (len : ℕ) (b : Bool) → b ≡ nat_eq len 0 → len ≡ length made → b ≡ is_nil (map f made)
is_first f made len b h e = is_nil_of made len b h e ∙ nil_mapped f made

-- ---- operators

join_read : (n : ℕ) (operand : Tokens → Found Syntax) (a : Syntax) (ws at us : Tokens) (o : Binary) (b : Syntax) → Some o ≡ operator_at n ws → at ≡ drop 1 ws → operand at ≡ found b us
    → join_step n operand a ws ≡ more (tree.binary o a b) us
join_read n operand a ws at us o b q d r =
    ap (join_turn operand a ws) (sym q) ∙ ap (λ z. stepped (and_then (operand z) (λ b us. found (tree.binary o a b) us))) (sym d)
    ∙ ap (λ z. stepped (and_then z (λ b us. found (tree.binary o a b) us))) r

pub join_more : (n : ℕ) (operand : Tokens → Found Syntax) (a next : Syntax) (ws at us : Tokens) (o : Binary) (b : Syntax) (k m : ℕ) (whole : Found Syntax) → Some o ≡ operator_at n ws → at ≡ drop 1 ws
    → operand at ≡ found b us → next ≡ tree.binary o a b → m < k → Left (join_step n operand) a ws k whole → Left (join_step n operand) next us m whole
join_more n operand a next ws at us o b k m whole q d r e lt left =
    left_more (join_step n operand) a ws next us k m whole (join_read n operand a ws at us o b q d r ∙ ap (λ z. more z us) (sym e)) lt left

pub join_broken : (n : ℕ) (operand : Tokens → Found Syntax) (a : Syntax) (ws at : Tokens) (o : Binary) (k : ℕ) (whole : Found Syntax) → Some o ≡ operator_at n ws → at ≡ drop 1 ws
    → operand at ≡ none → Left (join_step n operand) a ws k whole → whole ≡ none
join_broken n operand a ws at o k whole q d r left =
    left_broken (join_step n operand) a ws k whole
    (ap (join_turn operand a ws) (sym q) ∙ ap (λ z. stepped (and_then (operand z) (λ b us. found (tree.binary o a b) us))) (sym d)
    ∙ ap (λ z. stepped (and_then z (λ b us. found (tree.binary o a b) us))) r)
    left

pub rank_is : (read : Tokens → Found Syntax) (n e : ℕ) (ws : Tokens) (a : Syntax) (us : Tokens) → n ≡ suc e → read_rank read e ws ≡ found a us
    → loop (join_step e (read_rank read e)) a us ≡ read_rank read n ws
rank_is read n e ws a us p h =
    let low = read_rank read e in
    ap (λ r. and_then r (λ a us. loop (join_step e low) a us)) (sym h) ∙ ap (λ k. read_rank read k ws) (sym p)

-- ---- members

pub member_begun : (read : Tokens → Found Syntax) (ws : Tokens) (a : Syntax) (ts : List Token) → read_primary read ws ≡ found a (token_lexemes ts)
    → Left (next_step read) a (token_lexemes ts) (length ts) (read_member read ws)
member_begun read ws a ts h =
    subst (λ z. Left (next_step read) a (token_lexemes ts) (length ts) z) (ap (λ r. and_then r (λ a us. loop (next_step read) a us)) (sym h)) (begun (next_step read) a ts)

pub member_more : (read : Tokens → Found Syntax) (a next : Syntax) (ws us : Tokens) (b : Bool) (n m : ℕ) (whole : Found Syntax) → b ≡ goes_on ws → b ≡ true → read_next read a (next_of ws) ≡ found next us → m < n
    → Left (next_step read) a ws n whole → Left (next_step read) next us m whole
member_more read a next ws us b n m whole q t r lt left =
    left_more (next_step read) a ws next us n m whole (ap (λ z. step_if z (read_next read a (next_of ws))) (sym q ∙ t) ∙ ap stepped r) lt left

pub member_broken : (read : Tokens → Found Syntax) (a : Syntax) (ws : Tokens) (b : Bool) (n : ℕ) (whole : Found Syntax) → b ≡ goes_on ws → b ≡ true → read_next read a (next_of ws) ≡ none
    → Left (next_step read) a ws n whole → whole ≡ none
member_broken read a ws b n whole q t r left =
    left_broken (next_step read) a ws n whole (ap (λ z. step_if z (read_next read a (next_of ws))) (sym q ∙ t) ∙ ap stepped r) left

pub member_over : (read : Tokens → Found Syntax) (a : Syntax) (ws : Tokens) (b : Bool) (n : ℕ) (whole : Found Syntax) → b ≡ goes_on ws → b ≡ false
    → Left (next_step read) a ws n whole → whole ≡ found a ws
member_over read a ws b n whole q t left =
    left_over (next_step read) a ws n whole (ap (λ z. step_if z (read_next read a (next_of ws))) (sym q ∙ t)) left

-- ---- choices

pub choice_is : (d e : ℕ) (ws us vs : Tokens) (c : Syntax) → d ≡ suc e → read_rank (read_expr e) 5 ws ≡ found c us → Some vs ≡ after_question us
    → choose (read_rank (read_expr e) 5) (read_expr e) c [] (Some vs) ≡ read_expr d ws
choice_is d e ws us vs c p h q =
    let low = read_rank (read_expr e) 5 in
    ap (choose low (read_expr e) c us) q ∙ ap (λ r. and_then r (λ c us. choose low (read_expr e) c us (after_question us))) (sym h) ∙ ap (λ n. read_expr n ws) (sym p)

pub no_choice_is : (d e : ℕ) (ws us : Tokens) (c : Syntax) → d ≡ suc e → read_rank (read_expr e) 5 ws ≡ found c us → None ≡ after_question us → read_expr d ws ≡ found c us
no_choice_is d e ws us c p h q =
    let low = read_rank (read_expr e) 5 in
    ap (λ n. read_expr n ws) p ∙ ap (λ r. and_then r (λ c us. choose low (read_expr e) c us (after_question us))) h ∙ ap (choose low (read_expr e) c us) (sym q)

pub no_condition : (d e : ℕ) (ws : Tokens) → d ≡ suc e → read_rank (read_expr e) 5 ws ≡ none → read_expr d ws ≡ none
no_condition d e ws p h =
    let low = read_rank (read_expr e) 5 in
    ap (λ n. read_expr n ws) p ∙ ap (λ r. and_then r (λ c us. choose low (read_expr e) c us (after_question us))) h
