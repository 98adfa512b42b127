-- An integer that was checked for its size.
use Rattle.std.specs.Prelude.{ℤ, Option, Some, None}
use Rattle.cel_value.specs.Data.{integer}
use Rattle.cel_eval.specs.declared.stop.Fault.TheVariants.{Overflow}
use Rattle.cel_eval.specs.Outcome.{Outcome, value, error}

abbrev pub checked : Option ℤ → Outcome
checked None = error Overflow
checked (Some z) = value (integer z)
