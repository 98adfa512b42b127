-- Macros, over the items of a list or the keys of a map, in the order of its entries. Common Expression Language specification, "Macros"
-- (langdef.md).
use Rattle.std.specs.Prelude.{ℕ, ◌+◌, nat_eq, Result, Ok, Err}
use Rattle.cel_ast.specs.declared.operators.Macro.{Macro}
use Rattle.cel_ast.specs.declared.operators.Macro.TheVariants as macro
use Rattle.cel_value.specs.Data.{Value, list, map, Values, no_values, item, Entries, no_entries, entry}
use Rattle.cel_value.specs.Map.{value_of_key}
use Rattle.cel_eval.specs.declared.stop.Stop.{Stop}
use Rattle.cel_eval.specs.declared.stop.Fault.TheVariants.{NoOverload}
use Rattle.cel_eval.specs.declared.truth.Truth.{Truth}
use Rattle.cel_eval.specs.declared.truth.Truth.TheVariants.{Yes, No, Neither}
use Rattle.cel_eval.specs.Outcome.{Outcome, value, stopped, error, answer}
use Rattle.cel_eval.specs.Truth.{truth, outcome, both, either}

abbrev pub keys : Entries → Values
keys no_entries = no_values
keys (entry k v es) = item (value_of_key k) (keys es)

-- `all`: the body at each item, joined by `&&`
abbrev pub all_of : (Value → Outcome) → Values → Truth
all_of body no_values = Yes
all_of body (item v vs) = both (truth (body v)) (all_of body vs)

-- `exists`: the body at each item, joined by `||`
abbrev pub any_of : (Value → Outcome) → Values → Truth
any_of body no_values = No
any_of body (item v vs) = either (truth (body v)) (any_of body vs)

-- counts one more where the truth value is true; the first stop is the answer
abbrev pub counted : Truth → Result ℕ Stop → Result ℕ Stop
counted Yes (Ok n) = Ok (1 + n)
counted Yes (Err s) = Err s
counted No n = n
counted (Neither s) n = Err s

-- at how many items the body is true
abbrev pub count_of : (Value → Outcome) → Values → Result ℕ Stop
count_of body no_values = Ok 0
count_of body (item v vs) = counted (truth (body v)) (count_of body vs)

-- `exists_one`
abbrev pub just_one : Result ℕ Stop → Outcome
just_one (Ok n) = answer (nat_eq n 1)
just_one (Err s) = stopped s

-- a value in front
abbrev pub put : Outcome → Result Values Stop → Result Values Stop
put (value v) (Ok vs) = Ok (item v vs)
put (value v) (Err s) = Err s
put (stopped s) vs = Err s

-- an item in front, where the truth value is true
abbrev pub kept : Truth → Value → Result Values Stop → Result Values Stop
kept Yes v vs = put (value v) vs
kept No v vs = vs
kept (Neither s) v vs = Err s

-- `filter`: the items where the body is true; the first stop is the answer
abbrev pub filtered : (Value → Outcome) → Values → Result Values Stop
filtered body no_values = Ok no_values
filtered body (item v vs) = kept (truth (body v)) v (filtered body vs)

-- `map`: the body at each item; the first stop is the answer
abbrev pub mapped : (Value → Outcome) → Values → Result Values Stop
mapped body no_values = Ok no_values
mapped body (item v vs) = put (body v) (mapped body vs)

abbrev pub listed : Result Values Stop → Outcome
listed (Ok vs) = value (list vs)
listed (Err s) = stopped s

abbrev pub over : Macro → (Value → Outcome) → Values → Outcome
over macro.All body vs = outcome (all_of body vs)
over macro.Exists body vs = outcome (any_of body vs)
over macro.ExistsOne body vs = just_one (count_of body vs)
over macro.Filter body vs = listed (filtered body vs)
over macro.Map body vs = listed (mapped body vs)

-- over the items of a list, or the keys of a map
abbrev pub over_range : (Values → Outcome) → Value → Outcome
over_range f (list vs) = f vs
over_range f (map es) = f (keys es)
over_range f _ = error NoOverload
