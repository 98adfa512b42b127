-- The laws of evaluation.
use Rattle.std.proofs.Common.{◌≡◌, ◌∷◌, List, [], ℕ, Bool, true, false, ◌||◌, nat_eq, if◌then◌else◌, refl, sym, ap, ◌∙◌, arith}
use Rattle.std.proofs.lemmas.Bool.Decides.{nat_tests}
use Rattle.cel_ast.specs.Syntax.{Syntax, Text, name, unary, binary, macro}
use Rattle.cel_ast.specs.declared.operators.Unary.TheVariants.{Not}
use Rattle.cel_ast.specs.declared.operators.Binary.TheVariants.{Or, And, Equal, In}
use Rattle.cel_ast.specs.declared.operators.Macro.TheVariants.{All, Exists}
use Rattle.cel_value.specs.Data.{Value, Values, no_values, item, list, map}
use Rattle.cel_value.specs.Same.{same}
use Rattle.cel_eval.specs.declared.truth.Truth.{Truth}
use Rattle.cel_eval.specs.Outcome.{Outcome, value, stopped, answer, bind, bound, Bindings}
use Rattle.cel_eval.specs.Truth.{truth, outcome, both, either, opposite}
use Rattle.cel_eval.specs.Operators.{unary_of, binary_of, is_item}
use Rattle.cel_eval.specs.Ranges.{all_of, any_of, over, over_range, keys}
use Rattle.cel_eval.specs.Eval.{eval}
use Rattle.cel_eval.specs.Laws.{all_by_hand, exists_by_hand}
use Rattle.cel_eval.proofs.TruthLemmas.{truth-outcome, both-no, either-yes, not-both, twice}
use lib.Pointwise.{pointwise}

pub and_left : (a b : Syntax) (bs : Bindings) → eval a bs ≡ answer false → eval (binary And a b) bs ≡ answer false
and_left a b bs h = ap (λ o. outcome (both (truth o) (truth (eval b bs)))) h

pub and_right : (a b : Syntax) (bs : Bindings) → eval b bs ≡ answer false → eval (binary And a b) bs ≡ answer false
and_right a b bs h = ap (λ o. outcome (both (truth (eval a bs)) (truth o))) h ∙ ap outcome (both-no (truth (eval a bs)))

pub or_left : (a b : Syntax) (bs : Bindings) → eval a bs ≡ answer true → eval (binary Or a b) bs ≡ answer true
or_left a b bs h = ap (λ o. outcome (either (truth o) (truth (eval b bs)))) h

pub or_right : (a b : Syntax) (bs : Bindings) → eval b bs ≡ answer true → eval (binary Or a b) bs ≡ answer true
or_right a b bs h = ap (λ o. outcome (either (truth (eval a bs)) (truth o))) h ∙ ap outcome (either-yes (truth (eval a bs)))

-- `!` of an outcome
not-outcome : (o : Outcome) → bind o (unary_of Not) ≡ outcome (opposite (truth o))
not-outcome (value v) = refl
not-outcome (stopped s) = refl

-- the truth value of a negation
negated : (o : Outcome) → truth (bind o (unary_of Not)) ≡ opposite (truth o)
negated o = ap truth (not-outcome o) ∙ truth-outcome (opposite (truth o))

pub morgan : (a b : Syntax) (bs : Bindings) → eval (unary Not (binary And a b)) bs ≡ eval (binary Or (unary Not a) (unary Not b)) bs
morgan a b bs =
    let s = truth (eval a bs) in
    let t = truth (eval b bs) in
    not-outcome (outcome (both s t)) ∙ ap (λ u. outcome (opposite u)) (truth-outcome (both s t)) ∙ ap outcome (not-both s t)
    ∙ ap (λ u. outcome (either u (opposite t))) (sym (negated (eval a bs))) ∙ ap (λ u. outcome (either (truth (bind (eval a bs) (unary_of Not))) u)) (sym (negated (eval b bs)))

any_by_all : (p : Value → Outcome) (vs : Values) → any_of p vs ≡ opposite (all_of (λ v. bind (p v) (unary_of Not)) vs)
any_by_all p no_values = refl
any_by_all p (item v vs) =
    let rest = all_of (λ w. bind (p w) (unary_of Not)) vs in
    ap (either (truth (p v))) (any_by_all p vs) ∙ ap (λ t. either t (opposite rest)) (sym (twice (truth (p v))))
    ∙ sym (not-both (opposite (truth (p v))) rest) ∙ ap (λ t. opposite (both t rest)) (sym (negated (p v)))

dual_over : (p : Value → Outcome) (vs : Values) → outcome (any_of p vs) ≡ bind (outcome (all_of (λ v. bind (p v) (unary_of Not)) vs)) (unary_of Not)
dual_over p vs =
    let all = all_of (λ v. bind (p v) (unary_of Not)) vs in
    ap outcome (any_by_all p vs) ∙ ap (λ t. outcome (opposite t)) (sym (truth-outcome all)) ∙ sym (not-outcome (outcome all))

dual_range : (p : Value → Outcome) (o : Outcome) → bind o (over_range (over Exists p)) ≡ bind (bind o (over_range (over All (λ v. bind (p v) (unary_of Not))))) (unary_of Not)
dual_range p (stopped s) = refl
dual_range p (value (list vs)) = dual_over p vs
dual_range p (value (map es)) = dual_over p (keys es)
dual_range p (value _) = refl

pub dual : (e p : Syntax) (x : Text) (bs : Bindings) → eval (macro Exists e x p) bs ≡ eval (unary Not (macro All e x (unary Not p))) bs
dual e p x bs = dual_range (λ v. eval p ((x, v) ∷ bs)) (eval e bs)

all_over : (vs : Values) (x : Text) (p : Syntax) (bs : Bindings) → outcome (all_of (λ v. eval p ((x, v) ∷ bs)) vs) ≡ all_by_hand vs x p bs
all_over no_values x p bs = refl
all_over (item v vs) x p bs =
    let t = truth (eval p ((x, v) ∷ bs)) in
    ap (λ u. outcome (both t u)) (sym (truth-outcome (all_of (λ w. eval p ((x, w) ∷ bs)) vs))) ∙ ap (λ o. outcome (both t (truth o))) (all_over vs x p bs)

any_over : (vs : Values) (x : Text) (p : Syntax) (bs : Bindings) → outcome (any_of (λ v. eval p ((x, v) ∷ bs)) vs) ≡ exists_by_hand vs x p bs
any_over no_values x p bs = refl
any_over (item v vs) x p bs =
    let t = truth (eval p ((x, v) ∷ bs)) in
    ap (λ u. outcome (either t u)) (sym (truth-outcome (any_of (λ w. eval p ((x, w) ∷ bs)) vs))) ∙ ap (λ o. outcome (either t (truth o))) (any_over vs x p bs)

pub all_expands : (e p : Syntax) (x : Text) (vs : Values) (bs : Bindings) → eval e bs ≡ value (list vs) → eval (macro All e x p) bs ≡ all_by_hand vs x p bs
all_expands e p x vs bs h = ap (λ o. bind o (over_range (over All (λ v. eval p ((x, v) ∷ bs))))) h ∙ all_over vs x p bs

pub exists_expands : (e p : Syntax) (x : Text) (vs : Values) (bs : Bindings) → eval e bs ≡ value (list vs) → eval (macro Exists e x p) bs ≡ exists_by_hand vs x p bs
exists_expands e p x vs bs h = ap (λ o. bind o (over_range (over Exists (λ v. eval p ((x, v) ∷ bs))))) h ∙ any_over vs x p bs

-- membership by equality, item by item
same_self : (xs : List ℕ) → pointwise nat_eq xs xs ≡ true
same_self [] = refl
same_self (x ∷ xs) = let h = same_self xs in grind (arith, nat_tests, h)

either_answers : (a b : Bool) → either (truth (answer a)) (truth (answer b)) ≡ truth (answer (a || b))
either_answers true b = refl
either_answers false b = refl

any_same : (body : Value → Outcome) (v : Value) → ((w : Value) → body w ≡ answer (same v w)) → (vs : Values) → any_of body vs ≡ truth (answer (is_item v vs))
any_same body v h no_values = refl
any_same body v h (item w vs) =
    ap (λ o. either (truth o) (any_of body vs)) (h w) ∙ ap (either (truth (answer (same v w)))) (any_same body v h vs) ∙ either_answers (same v w) (is_item v vs)

outcome_answer : (b : Bool) → outcome (truth (answer b)) ≡ answer b
outcome_answer true = refl
outcome_answer false = refl

pub member_exists : (x y : Text) (e : Syntax) (v : Value) (vs : Values) (bs : Bindings) → pointwise nat_eq x y ≡ false → eval (name x) bs ≡ value v → eval e bs ≡ value (list vs)
    → eval (binary In (name x) e) bs ≡ eval (macro Exists e y (binary Equal (name x) (name y))) bs
member_exists x y e v vs bs apart is l =
    let body = λ (w : Value). eval (binary Equal (name x) (name y)) ((y, w) ∷ bs) in
    let outer = λ (w : Value). ap (λ b. if b then value w else bound x bs) apart ∙ is in
    let inner = λ (w : Value). ap (λ b. if b then value w else bound y bs) (same_self y) in
    let each = λ (w : Value). ap (λ o. binary_of Equal o (bound y ((y, w) ∷ bs))) (outer w) ∙ ap (binary_of Equal (value v)) (inner w) in
    ap (λ o. binary_of In o (eval e bs)) is ∙ ap (binary_of In (value v)) l ∙ sym (outcome_answer (is_item v vs)) ∙ ap outcome (sym (any_same body v each vs))
    ∙ ap (λ o. bind o (over_range (over Exists body))) (sym l)
