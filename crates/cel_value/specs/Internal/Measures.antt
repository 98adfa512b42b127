-- A part of a value nests less deep than the whole: the measure of recursions over a value.
use Rattle.std.specs.Prelude.{◌≤◌, max, List, [], ◌∷◌}
use Rattle.std.proofs.Common.{arith}
use Rattle.cel_value.specs.Data.{depth, values_depth, entries_depth}
use Rattle.cel_value.specs.View.{value_of, values_of, entries_of}
use Rattle.cel_value.specs.declared.value.Value.{Value}
use Rattle.cel_value.specs.declared.value.Value.TheVariants as value
use Rattle.cel_value.specs.declared.value.Entry.{Entry}
use Rattle.cel_value.specs.declared.value.Entries.TheDeep.{deep-Value, deep-Entry}
use denote.Param.Weighed.{most}

value_decreases : (v : Value) → deep-Value v ≤ depth (value_of v)
value_decreases value.Null = omega arith
value_decreases (value.Bool b) = omega arith
value_decreases (value.Int z) = omega arith
value_decreases (value.String t) = omega arith
value_decreases (value.List vs) = omega arith
value_decreases (value.Map es) = omega arith

pub values_decrease : (vs : List Value) → max (most (λ v. deep-Value v) vs) 0 ≤ values_depth (values_of vs)
values_decrease [] = omega arith
values_decrease (v ∷ vs) = omega (arith, value_decreases v, values_decrease vs)

pub entries_decrease : (es : List Entry) → max (most (λ e. deep-Entry e) es) 0 ≤ entries_depth (entries_of es)
entries_decrease [] = omega arith
entries_decrease (e ∷ es) = omega (arith, value_decreases e.value, entries_decrease es)
