-- What the code answers where reading as a function finds this.
use Rattle.std.specs.Prelude.{◌≡◌, ℕ, List, Result, MatchResult}
use Rattle.std.specs.Borrow.{Bor}
use Rattle.cel_read.specs.View.{token_lexemes}
use Rattle.cel_read.specs.declared.token.Token.{Token}
use Rattle.cel_parse.specs.Internal.Readers.{Found, none, found}
use Rattle.cel_parse.specs.declared.fault.Stopped.{Stopped}
use Rattle.cel_parse.specs.declared.fault.Stopped.TheVariants.{Before}

abbrev pub Reads : {V A : Type 0} → (V → A) → Found A → Result (V × Bor (List Token)) Stopped → Type 0
Reads view whole result = MatchResult result (λ r. whole ≡ found (view r.0) (token_lexemes r.1.now)) (λ f. (n : ℕ) → f ≡ Before n → whole ≡ none)
