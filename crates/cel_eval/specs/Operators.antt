-- Operators on values. Common Expression Language specification, "List of Standard Definitions" (langdef.md). An operator that is not defined for
-- the types of its operands gives `NoOverload`.
use Rattle.std.specs.Prelude.{ℕ, zero, suc, ℤ, pos, negsuc, ◌+ℤ◌, ◌-ℤ◌, ◌*ℤ◌, neg_ℤ, int_div, int_rem, Result, Ok, Err, Option, Some, None, List, [], ◌∷◌, ◌++◌, Bool, true, false, not, ◌||◌, nat_eq}
use Rattle.std.specs.Ordering.{is_lt, is_le, int_cmp, nat_cmp, bool_cmp}
use Rattle.std.specs.Cmp.Lexicographic.{slice_cmp}
use Rattle.std.specs.Option.{is_some}
use Rattle.std.specs.declared.cmp.Ordering.{Ordering}
use Rattle.cel_ast.specs.Syntax.{Text}
use Rattle.cel_ast.specs.declared.operators.Unary.{Unary}
use Rattle.cel_ast.specs.declared.operators.Unary.TheVariants as one
use Rattle.cel_ast.specs.declared.operators.Binary.{Binary}
use Rattle.cel_ast.specs.declared.operators.Binary.TheVariants as two
use Rattle.cel_value.specs.Data.{Value, boolean, integer, string, list, map, Values, no_values, item, Entries, Key, string_key}
use Rattle.cel_value.specs.Same.{same, value_at}
use Rattle.cel_value.specs.Map.{key_of}
use Rattle.cel_eval.specs.declared.stop.Fault.{Fault}
use Rattle.cel_eval.specs.declared.stop.Fault.TheVariants.{NoOverload, NoSuchKey, IndexOutOfRange, DivisionByZero}
use Rattle.cel_eval.specs.declared.stop.Reason.TheVariants.{Optional}
use Rattle.cel_eval.specs.declared.truth.Truth.{Truth}
use Rattle.cel_eval.specs.declared.truth.Truth.TheVariants.{Yes, No, Neither}
use Rattle.cel_eval.specs.Outcome.{Outcome, value, stopped, error, not_judged, answer, number, value_or, bind}
use Rattle.cel_eval.specs.Truth.{truth, outcome, both, either, opposite, truth_of}

-- `e.f`
abbrev pub field : Text → Value → Outcome
field f (map es) = value_or NoSuchKey (value_at (string_key f) es)
field f _ = error NoOverload

-- `has(e.f)`: a field that is null is there
abbrev pub has_field : Text → Value → Outcome
has_field f (map es) = answer (is_some (value_at (string_key f) es))
has_field f _ = error NoOverload

abbrev pub negative : Value → Outcome
negative (integer z) = number (neg_ℤ z)
negative _ = error NoOverload

abbrev pub unary_of : Unary → Value → Outcome
unary_of one.Not v = outcome (opposite (truth_of v))
unary_of one.Negate v = negative v

-- integers by value, strings by their characters, false before true
abbrev pub order_of : Value → Value → Result Ordering Fault
order_of (integer a) (integer b) = Ok (int_cmp a b)
order_of (string s) (string t) = Ok (slice_cmp nat_cmp s t)
order_of (boolean a) (boolean b) = Ok (bool_cmp a b)
order_of _ _ = Err NoOverload

abbrev pub answer_where : (Ordering → Bool) → Result Ordering Fault → Outcome
answer_where test (Ok o) = answer (test o)
answer_where test (Err e) = error e

abbrev pub compared : (Ordering → Bool) → Value → Value → Outcome
compared test v w = answer_where test (order_of v w)

abbrev pub joined : Values → Values → Values
joined no_values ws = ws
joined (item v vs) ws = item v (joined vs ws)

abbrev pub sum_of : Value → Value → Outcome
sum_of (integer a) (integer b) = number (a +ℤ b)
sum_of (string s) (string t) = value (string (s ++ t))
sum_of (list vs) (list ws) = value (list (joined vs ws))
sum_of _ _ = error NoOverload

abbrev pub calculated : (ℤ → ℤ → Outcome) → Value → Value → Outcome
calculated f (integer a) (integer b) = f a b
calculated f _ _ = error NoOverload

-- Not by zero. The quotient is cut off towards zero, and has to have 64 bits for the remainder too.
abbrev pub divided : (ℤ → ℤ → ℤ) → ℤ → ℤ → Outcome
divided f a (pos zero) = error DivisionByZero
divided f a b = bind (number (int_div a b)) (λ _. value (integer (f a b)))

abbrev pub is_item : Value → Values → Bool
is_item v no_values = false
is_item v (item w ws) = same v w || is_item v ws

-- what is under the key, where the value is a key
abbrev pub under : Option Key → Entries → Option Value
under None es = None
under (Some k) es = value_at k es

-- `v in w`
abbrev pub is_in : Value → Value → Outcome
is_in v (list vs) = answer (is_item v vs)
is_in v (map es) = answer (is_some (under (key_of v) es))
is_in _ _ = error NoOverload

abbrev pub item_at : ℕ → Values → Option Value
item_at n no_values = None
item_at zero (item v vs) = Some v
item_at (suc n) (item v vs) = item_at n vs

-- `v[w]`
abbrev pub indexed : Value → Value → Outcome
indexed (list vs) (integer (pos n)) = value_or IndexOutOfRange (item_at n vs)
indexed (list vs) (integer (negsuc n)) = error IndexOutOfRange
indexed (map es) w = value_or NoSuchKey (under (key_of w) es)
indexed _ _ = error NoOverload

-- an operator at two values
abbrev pub strict_of : Binary → Value → Value → Outcome
strict_of two.Or v w = outcome (either (truth_of v) (truth_of w))
strict_of two.And v w = outcome (both (truth_of v) (truth_of w))
strict_of two.Equal v w = answer (same v w)
strict_of two.NotEqual v w = answer (not (same v w))
strict_of two.Less v w = compared is_lt v w
strict_of two.LessOrEqual v w = compared is_le v w
strict_of two.Greater v w = compared is_lt w v
strict_of two.GreaterOrEqual v w = compared is_le w v
strict_of two.In v w = is_in v w
strict_of two.Add v w = sum_of v w
strict_of two.Subtract v w = calculated (λ x y. number (x -ℤ y)) v w
strict_of two.Multiply v w = calculated (λ x y. number (x *ℤ y)) v w
strict_of two.Divide v w = calculated (divided int_div) v w
strict_of two.Modulo v w = calculated (divided int_rem) v w
strict_of two.Index v w = indexed v w
strict_of two.OptionalIndex v w = not_judged Optional

-- `&&` and `||` go on after a stop, and the others do not
abbrev pub binary_of : Binary → Outcome → Outcome → Outcome
binary_of two.Or a b = outcome (either (truth a) (truth b))
binary_of two.And a b = outcome (both (truth a) (truth b))
binary_of o a b = bind a (λ v. bind b (λ w. strict_of o v w))

-- `c ? a : b`
abbrev pub chosen_by : Truth → Outcome → Outcome → Outcome
chosen_by Yes a b = a
chosen_by No a b = b
chosen_by (Neither s) a b = stopped s

abbrev pub chosen : Outcome → Outcome → Outcome → Outcome
chosen c a b = chosen_by (truth c) a b
