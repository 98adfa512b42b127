-- What the code's answers and environments stand for.
use Rattle.std.specs.Prelude.{List, [], ◌∷◌}
use Rattle.cel_value.specs.View.{value_of}
use Rattle.cel_eval.specs.declared.answer.Answer.{Answer}
use Rattle.cel_eval.specs.declared.answer.Answer.TheVariants as answer
use Rattle.cel_eval.specs.declared.env.Env.{Env}
use Rattle.cel_eval.specs.declared.env.Env.TheVariants as env
use Rattle.cel_eval.specs.Outcome.{Outcome, value, stopped, Bindings}

abbrev pub outcome_of : Answer → Outcome
outcome_of (answer.Lent v) = value (value_of v.now)
outcome_of (answer.Made v) = value (value_of v)
outcome_of (answer.Stopped s) = stopped s

abbrev pub bindings_of : Env → Bindings
bindings_of env.Empty = []
bindings_of (env.Bound' x v p rest) = (x.now, value_of v.now) ∷ bindings_of rest
