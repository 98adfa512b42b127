-- How a macro goes on by one item, and a list or a map that is written out by one element or entry.
use Rattle.std.proofs.Common.{◌≡◌, ◌<◌, ◌+◌, ℕ, List, [], ◌∷◌, ◌++◌, Result, Ok, Err, length, get_or, drop, refl, sym, ap, ◌∙◌, arith}
use Rattle.cel_value.specs.Data.{Value, Values, no_values, item}
use Rattle.cel_value.specs.View.{value_of, values_of}
use Rattle.cel_value.specs.declared.value.Value.{Value as Held}
use Rattle.cel_eval.specs.declared.stop.Stop.{Stop}
use Rattle.cel_eval.specs.declared.truth.Truth.{Truth}
use Rattle.cel_eval.specs.declared.truth.Truth.TheVariants.{Yes, No, Neither}
use Rattle.cel_eval.specs.Outcome.{Outcome, value}
use Rattle.cel_eval.specs.Truth.{both, either, truth}
use Rattle.cel_eval.specs.Operators.{joined}
use Rattle.cel_eval.specs.Ranges.{all_of, any_of, count_of, counted, mapped, filtered, kept, put}
use Rattle.cel_eval.proofs.ListLemmas.{joined_more, joined_none, values_left}
use Rattle.cel_eval.proofs.TruthLemmas.{both_assoc, either_assoc}

-- what was counted, and what follows
abbrev pub plus : ℕ → Result ℕ Stop → Result ℕ Stop
plus n (Ok m) = Ok (n + m)
plus n (Err s) = Err s

pub plus_counted : (n : ℕ) (r : Result ℕ Stop) → plus n (counted Yes r) ≡ plus (n + 1) r
plus_counted n (Ok m) = ap Ok (let e : n + (1 + m) ≡ n + 1 + m = omega arith in e)
plus_counted n (Err s) = refl

-- what was made, and what follows
abbrev pub ahead : Values → Result Values Stop → Result Values Stop
ahead vs (Ok ws) = Ok (joined vs ws)
ahead vs (Err s) = Err s

pub ahead_put : (xs : List Held) (y : Held) (r : Result Values Stop) → ahead (values_of xs) (put (value (value_of y)) r) ≡ ahead (values_of (xs ++ y ∷ [])) r
ahead_put xs y (Ok ws) = ap Ok (sym (joined_more xs y ws))
ahead_put xs y (Err s) = refl

-- nothing follows
pub ahead_none : (made : List Held) (r whole : Result Values Stop) → r ≡ Ok no_values → ahead (values_of made) r ≡ whole → Ok (values_of made) ≡ whole
ahead_none made r whole e w = ap Ok (sym (joined_none (values_of made))) ∙ ap (ahead (values_of made)) (sym e) ∙ w

pub all_step : (body : Value → Outcome) (found t next : Truth) (o : Outcome) (whole : Truth) (xs : List Held) (i : ℕ) (x : Held) → i < length xs → x ≡ get_or xs i x
    → next ≡ both found t → t ≡ truth o → o ≡ body (value_of x) → both found (all_of body (values_of (drop i xs))) ≡ whole
    → both next (all_of body (values_of (drop (i + 1) xs))) ≡ whole
all_step body found t next o whole xs i x h p n e f w =
    ap (λ u. both u (all_of body (values_of (drop (i + 1) xs)))) (n ∙ ap (both found) (e ∙ ap truth f))
    ∙ both_assoc found (truth (body (value_of x))) (all_of body (values_of (drop (i + 1) xs)))
    ∙ ap (λ vs. both found (all_of body vs)) (sym (values_left xs i x h p)) ∙ w

pub any_step : (body : Value → Outcome) (found t next : Truth) (o : Outcome) (whole : Truth) (xs : List Held) (i : ℕ) (x : Held) → i < length xs → x ≡ get_or xs i x
    → next ≡ either found t → t ≡ truth o → o ≡ body (value_of x) → either found (any_of body (values_of (drop i xs))) ≡ whole
    → either next (any_of body (values_of (drop (i + 1) xs))) ≡ whole
any_step body found t next o whole xs i x h p n e f w =
    ap (λ u. either u (any_of body (values_of (drop (i + 1) xs)))) (n ∙ ap (either found) (e ∙ ap truth f))
    ∙ either_assoc found (truth (body (value_of x))) (any_of body (values_of (drop (i + 1) xs)))
    ∙ ap (λ vs. either found (any_of body vs)) (sym (values_left xs i x h p)) ∙ w

-- an item that is kept
pub keep_step : (body : Value → Outcome) (made : List Held) (t : Truth) (o : Outcome) (whole : Result Values Stop) (xs : List Held) (i : ℕ) (x : Held) → i < length xs → x ≡ get_or xs i x
    → t ≡ truth o → o ≡ body (value_of x) → t ≡ Yes → ahead (values_of made) (filtered body (values_of (drop i xs))) ≡ whole
    → ahead (values_of (made ++ x ∷ [])) (filtered body (values_of (drop (i + 1) xs))) ≡ whole
keep_step body made t o whole xs i x h p e f y w =
    let rest = filtered body (values_of (drop (i + 1) xs)) in
    let holds : truth (body (value_of x)) ≡ Yes = ap truth (sym f) ∙ sym e ∙ y in
    sym (ahead_put made x rest) ∙ ap (λ u. ahead (values_of made) (kept u (value_of x) rest)) (sym holds)
    ∙ ap (λ vs. ahead (values_of made) (filtered body vs)) (sym (values_left xs i x h p)) ∙ w

-- an item that is left out
pub skip_step : (body : Value → Outcome) (made : List Held) (t : Truth) (o : Outcome) (whole : Result Values Stop) (xs : List Held) (i : ℕ) (x : Held) → i < length xs → x ≡ get_or xs i x
    → t ≡ truth o → o ≡ body (value_of x) → t ≡ No → ahead (values_of made) (filtered body (values_of (drop i xs))) ≡ whole
    → ahead (values_of made) (filtered body (values_of (drop (i + 1) xs))) ≡ whole
skip_step body made t o whole xs i x h p e f y w =
    let rest = filtered body (values_of (drop (i + 1) xs)) in
    let fails : truth (body (value_of x)) ≡ No = ap truth (sym f) ∙ sym e ∙ y in
    ap (λ u. ahead (values_of made) (kept u (value_of x) rest)) (sym fails)
    ∙ ap (λ vs. ahead (values_of made) (filtered body vs)) (sym (values_left xs i x h p)) ∙ w

-- the body's value
pub map_step : (body : Value → Outcome) (made : List Held) (o : Outcome) (y : Held) (whole : Result Values Stop) (xs : List Held) (i : ℕ) (x : Held) → i < length xs → x ≡ get_or xs i x
    → o ≡ value (value_of y) → o ≡ body (value_of x) → ahead (values_of made) (mapped body (values_of (drop i xs))) ≡ whole
    → ahead (values_of (made ++ y ∷ [])) (mapped body (values_of (drop (i + 1) xs))) ≡ whole
map_step body made o y whole xs i x h p e f w =
    let rest = mapped body (values_of (drop (i + 1) xs)) in
    sym (ahead_put made y rest) ∙ ap (λ u. ahead (values_of made) (put u rest)) (sym e ∙ f)
    ∙ ap (λ vs. ahead (values_of made) (mapped body vs)) (sym (values_left xs i x h p)) ∙ w
