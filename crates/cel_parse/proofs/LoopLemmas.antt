-- Steps of loops, which a number bounds.
use Rattle.std.proofs.Common.{◌≡◌, ◌<◌, ℕ, zero, suc, List, length, refl, sym, ap, ◌∙◌, arith}
use Rattle.std.proofs.lemmas.List.{length-map}
use Rattle.cel_read.specs.View.{token_lexeme, token_lexemes}
use Rattle.cel_read.specs.declared.token.Token.{Token}
use Rattle.cel_parse.specs.Forms.{Tokens}
use Rattle.cel_parse.specs.Internal.Readers.{Found, none, found, Step, over, broken, more, turn, repeat, loop}

-- what is left of a loop over n tokens gives the whole
abbrev pub Left : {A : Type 0} → (A → Tokens → Step A) → A → Tokens → ℕ → Found A → Type 0
Left step a ws n whole = (f : ℕ) × (n < f) × (repeat f step a ws ≡ whole)

pub begun : {A : Type 0} (step : A → Tokens → Step A) (a : A) (ts : List Token) → Left step a (token_lexemes ts) (length ts) (loop step a (token_lexemes ts))
begun step a ts = (suc (length (token_lexemes ts)), omega (arith, length-map ts token_lexeme), refl)

one_turn : {A : Type 0} (step : A → Tokens → Step A) (a : A) (ws : Tokens) (n f : ℕ) → n < f → (g : ℕ) × (f ≡ suc g) × (repeat f step a ws ≡ turn (repeat g step) a ws (step a ws))
one_turn step a ws n zero lt = absurd (omega arith)
one_turn step a ws n (suc g) lt = (g, refl, refl)

pub left_over : {A : Type 0} (step : A → Tokens → Step A) (a : A) (ws : Tokens) (n : ℕ) (whole : Found A) → step a ws ≡ over → Left step a ws n whole → whole ≡ found a ws
left_over step a ws n whole h left =
    let t = one_turn step a ws n left.0 left.1 in
    sym left.2 ∙ t.2 ∙ ap (turn (repeat t.0 step) a ws) h

pub left_broken : {A : Type 0} (step : A → Tokens → Step A) (a : A) (ws : Tokens) (n : ℕ) (whole : Found A) → step a ws ≡ broken → Left step a ws n whole → whole ≡ none
left_broken step a ws n whole h left =
    let t = one_turn step a ws n left.0 left.1 in
    sym left.2 ∙ t.2 ∙ ap (turn (repeat t.0 step) a ws) h

pub left_more : {A : Type 0} (step : A → Tokens → Step A) (a : A) (ws : Tokens) (b : A) (us : Tokens) (n m : ℕ) (whole : Found A) → step a ws ≡ more b us → m < n
    → Left step a ws n whole → Left step b us m whole
left_more step a ws b us n m whole h lt left =
    let t = one_turn step a ws n left.0 left.1 in
    let e = t.1 in
    (t.0, omega (arith, e, left.1), ap (turn (repeat t.0 step) a ws) (sym h) ∙ sym t.2 ∙ left.2)
