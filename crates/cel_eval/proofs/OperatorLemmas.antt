-- Operators other than `&&` and `||` ask for both values.
use Rattle.std.proofs.Common.{◌≡◌, ◌≢◌, ◌∙◌, refl, Result}
use Rattle.std.specs.Prelude.{IfOk}
use Rattle.std.specs.declared.alloc.AllocError.{AllocError}
use Rattle.std.proofs.lemmas.Result.{IfOk-weaker}
use Rattle.cel_ast.specs.declared.operators.Binary.{Binary}
use Rattle.cel_ast.specs.declared.operators.Binary.TheVariants as two
use Rattle.cel_eval.specs.declared.answer.Answer.{Answer}
use Rattle.cel_eval.specs.Outcome.{Outcome, bind}
use Rattle.cel_eval.specs.Operators.{strict_of, binary_of}
use Rattle.cel_eval.specs.View.{outcome_of}

pub binary_strict : (o : Binary) (a b : Outcome) → o ≢ two.Or → o ≢ two.And → binary_of o a b ≡ bind a (λ v. bind b (λ w. strict_of o v w))
binary_strict two.Or a b p q = absurd (p refl)
binary_strict two.And a b p q = absurd (q refl)
binary_strict _ a b p q = refl

pub answered : (r : Result Answer AllocError) (o p : Outcome) → o ≡ p → IfOk r (λ a. outcome_of a ≡ o) → IfOk r (λ a. outcome_of a ≡ p)
answered r o p e h = IfOk-weaker r (λ a. outcome_of a ≡ o) (λ a. outcome_of a ≡ p) (λ a k. k ∙ e) h
