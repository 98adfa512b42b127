-- `all` and `exists` by `&&` and `||` alone, and `size`.
use Rattle.std.specs.Prelude.{◌∷◌, true, false}
use Rattle.cel_ast.specs.Syntax.{Syntax, Text}
use Rattle.cel_ast.specs.declared.operators.Binary.TheVariants.{Or, And}
use Rattle.cel_value.specs.Data.{Value, Values, no_values, item}
use Rattle.cel_eval.specs.Outcome.{Outcome, answer, Bindings}
use Rattle.cel_eval.specs.Operators.{binary_of}
use Rattle.cel_eval.specs.Eval.{eval}

abbrev pub all_by_hand : Values → Text → Syntax → Bindings → Outcome
all_by_hand no_values x p bs = answer true
all_by_hand (item v vs) x p bs = binary_of And (eval p ((x, v) ∷ bs)) (all_by_hand vs x p bs)

abbrev pub exists_by_hand : Values → Text → Syntax → Bindings → Outcome
exists_by_hand no_values x p bs = answer false
exists_by_hand (item v vs) x p bs = binary_of Or (eval p ((x, v) ∷ bs)) (exists_by_hand vs x p bs)
