use Rattle.std.proofs.Common.{◌≡◌, ◌≢◌, ◌∙◌, ◌++◌, ℕ, List, sym, subst}
use Rattle.std.specs.Prelude.{MatchOption}
use Rattle.std.proofs.lemmas.Bool.Decides.{Decides-eqb}
use Rattle.std.proofs.lemmas.Slice.Eq.{strip_prefix_is}
use Rattle.suggest.proofs.VaryLemmas.{goes_after, goes_none}
use Rattle.suggest.proofs.varying.goes_on.Goals as goal
use Rattle.suggest.proofs.varying.goes_on.Goals.{After-strip_prefix}

stripped : (c : After-strip_prefix) → MatchOption c.strip_prefix.result ((rest : List ℕ) → c.args.text.now ≢ c.args.path.now ++ rest) (λ rest. c.args.text.now ≡ c.args.path.now ++ rest.now)
stripped c = subst (λ text. MatchOption c.strip_prefix.result ((rest : List ℕ) → text ≢ c.args.path.now ++ rest) (λ rest. text ≡ c.args.path.now ++ rest.now)) c.as_bytes.ensures.value
    (subst (λ path. MatchOption c.strip_prefix.result ((rest : List ℕ) → c.as_bytes.result.now ≢ path ++ rest) (λ rest. c.as_bytes.result.now ≡ path ++ rest.now)) c.as_bytes-2.ensures.value
    (strip_prefix_is Decides-eqb c.as_bytes.result.now c.as_bytes-2.result.now c.strip_prefix.result c.strip_prefix.ensures.cases))

pub returns-in-Some : goal.returns-in-Some
returns-in-Some c =
    let rest = c.in-Some.rest.now in
    let after = rw c.in-Some.is at (stripped (goal.at.returns-in-Some c).After-strip_prefix) in
    c.begins_with_slash.ensures ∙ sym (goes_after c.args.path.now c.args.text.now rest after)

pub returns-in-None : goal.returns-in-None
returns-in-None c =
    let none = rw c.in-None.is at (stripped (goal.at.returns-in-None c).After-strip_prefix) in
    sym (goes_none c.args.path.now c.args.text.now none)
