-- What an expression gives: a value, or a stop. A stop is an error of the Common Expression Language (its specification, langdef.md,
-- "Evaluation"), or, as this project's own, that the expression is not judged.
use Rattle.std.specs.Prelude.{ℕ, ℤ, pos, negsuc, ◌^◌, List, [], ◌∷◌, Bool, Option, Some, None, if◌then◌else◌, nat_lt, nat_eq}
use Rattle.cel_ast.specs.Syntax.{Text}
use Rattle.cel_value.specs.Data.{Value, boolean, integer}
use Rattle.cel_eval.specs.declared.stop.Stop.{Stop}
use Rattle.cel_eval.specs.declared.stop.Stop.TheVariants.{Error, NotJudged}
use Rattle.cel_eval.specs.declared.stop.Fault.{Fault}
use Rattle.cel_eval.specs.declared.stop.Fault.TheVariants.{Overflow}
use Rattle.cel_eval.specs.declared.stop.Reason.{Reason}
use Rattle.cel_eval.specs.declared.stop.Reason.TheVariants.{Name}
use lib.Pointwise.{pointwise}

pub data Outcome : Type 0 where
  value : Value → Outcome
  stopped : Stop → Outcome

abbrev pub error : Fault → Outcome
error e = stopped (Error e)

abbrev pub not_judged : Reason → Outcome
not_judged r = stopped (NotJudged r)

-- goes on with a value; a stop stays
abbrev pub bind : Outcome → (Value → Outcome) → Outcome
bind (value v) f = f v
bind (stopped s) f = stopped s

-- a value, or this error where there is none
abbrev pub value_or : Fault → Option Value → Outcome
value_or e None = error e
value_or e (Some v) = value v

-- integers have 64 bits
abbrev pub fits : ℤ → Bool
fits (pos n) = nat_lt n (2 ^ 63)
fits (negsuc n) = nat_lt n (2 ^ 63)

abbrev pub number : ℤ → Outcome
number z = if fits z then value (integer z) else error Overflow

abbrev pub answer : Bool → Outcome
answer b = value (boolean b)

-- names and their values, the innermost first
abbrev pub Bindings : Type 0
Bindings = List (Text × Value)

-- a name that has no value is not judged: crdx does not know it
abbrev pub bound : Text → Bindings → Outcome
bound x [] = not_judged Name
bound x (b ∷ bs) = if pointwise nat_eq x b.0 then value b.1 else bound x bs
