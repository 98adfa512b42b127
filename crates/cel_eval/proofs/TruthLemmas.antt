-- Truth values under `&&`, `||` and `!`.
use Rattle.std.proofs.Common.{◌≡◌, refl, ap}
use Rattle.cel_eval.specs.declared.stop.Stop.{Stop}
use Rattle.cel_eval.specs.declared.stop.Stop.TheVariants.{Error, NotJudged}
use Rattle.cel_eval.specs.declared.truth.Truth.{Truth}
use Rattle.cel_eval.specs.declared.truth.Truth.TheVariants.{Yes, No, Neither}
use Rattle.cel_eval.specs.Outcome.{Outcome}
use Rattle.cel_eval.specs.Truth.{truth, outcome, both, either, either_stop, opposite}

-- an outcome that is made of a truth value has it
pub truth-outcome : (t : Truth) → truth (outcome t) ≡ t
truth-outcome Yes = refl
truth-outcome No = refl
truth-outcome (Neither s) = refl

pub both-no : (t : Truth) → both t No ≡ No
both-no Yes = refl
both-no No = refl
both-no (Neither s) = refl

pub either-yes : (t : Truth) → either t Yes ≡ Yes
either-yes Yes = refl
either-yes No = refl
either-yes (Neither s) = refl

stop_assoc : (s t u : Stop) → either_stop (either_stop s t) u ≡ either_stop s (either_stop t u)
stop_assoc (NotJudged r) t u = refl
stop_assoc (Error e) (NotJudged r) u = refl
stop_assoc (Error e) (Error f) (Error g) = refl
stop_assoc (Error e) (Error f) (NotJudged r) = refl

pub both_assoc : (a b c : Truth) → both (both a b) c ≡ both a (both b c)
both_assoc No b c = refl
both_assoc Yes b c = refl
both_assoc (Neither s) No c = refl
both_assoc (Neither s) Yes c = refl
both_assoc (Neither s) (Neither t) No = refl
both_assoc (Neither s) (Neither t) Yes = refl
both_assoc (Neither s) (Neither t) (Neither u) = ap Neither (stop_assoc s t u)

pub either_assoc : (a b c : Truth) → either (either a b) c ≡ either a (either b c)
either_assoc No b c = refl
either_assoc Yes b c = refl
either_assoc (Neither s) No c = refl
either_assoc (Neither s) Yes c = refl
either_assoc (Neither s) (Neither t) No = refl
either_assoc (Neither s) (Neither t) Yes = refl
either_assoc (Neither s) (Neither t) (Neither u) = ap Neither (stop_assoc s t u)

pub not-both : (s t : Truth) → opposite (both s t) ≡ either (opposite s) (opposite t)
not-both Yes t = refl
not-both No t = refl
not-both (Neither s) Yes = refl
not-both (Neither s) No = refl
not-both (Neither s) (Neither t) = refl

pub twice : (t : Truth) → opposite (opposite t) ≡ t
twice Yes = refl
twice No = refl
twice (Neither s) = refl
