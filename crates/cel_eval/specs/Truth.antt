-- What a logical operator sees: true, false, or neither. Common Expression Language specification, "Logical Operators" (langdef.md): what is no
-- truth value counts as an error, and an error on one side is absorbed where the other side decides.
use Rattle.std.specs.Prelude.{true, false}
use Rattle.cel_value.specs.Data.{Value, boolean}
use Rattle.cel_eval.specs.declared.stop.Stop.{Stop}
use Rattle.cel_eval.specs.declared.stop.Stop.TheVariants.{Error, NotJudged}
use Rattle.cel_eval.specs.declared.stop.Fault.TheVariants.{NoOverload}
use Rattle.cel_eval.specs.declared.truth.Truth.{Truth}
use Rattle.cel_eval.specs.declared.truth.Truth.TheVariants.{Yes, No, Neither}
use Rattle.cel_eval.specs.Outcome.{Outcome, value, stopped, answer}

abbrev pub truth_of : Value → Truth
truth_of (boolean true) = Yes
truth_of (boolean false) = No
truth_of _ = Neither (Error NoOverload)

abbrev pub truth : Outcome → Truth
truth (value v) = truth_of v
truth (stopped s) = Neither s

abbrev pub outcome : Truth → Outcome
outcome Yes = answer true
outcome No = answer false
outcome (Neither s) = stopped s

-- Of two stops, the first that is not judged, and else the first: what is not judged may have been a value that decides.
abbrev pub either_stop : Stop → Stop → Stop
either_stop (Error e) (NotJudged r) = NotJudged r
either_stop s t = s

-- `&&`: false where one side is false, true where both are true, and otherwise a stop
abbrev pub both : Truth → Truth → Truth
both No _ = No
both Yes t = t
both (Neither s) No = No
both (Neither s) Yes = Neither s
both (Neither s) (Neither t) = Neither (either_stop s t)

-- `||`: true where one side is true, false where both are false, and otherwise a stop
abbrev pub either : Truth → Truth → Truth
either Yes _ = Yes
either No t = t
either (Neither s) Yes = Yes
either (Neither s) No = Neither s
either (Neither s) (Neither t) = Neither (either_stop s t)

-- `!`
abbrev pub opposite : Truth → Truth
opposite Yes = No
opposite No = Yes
opposite (Neither s) = Neither s
