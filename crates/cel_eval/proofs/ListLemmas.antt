-- Values after values, and the value at an index.
use Rattle.std.proofs.Common.{◌≡◌, ◌<◌, ◌≤◌, ℕ, zero, suc, List, [], ◌∷◌, ◌++◌, Some, None, length, get_or, drop, ◌+◌, refl, sym, ap, ◌∙◌, arith}
use Rattle.std.specs.Prelude.{ℤ, pos, negsuc, ◌<ℤ◌}
use Rattle.std.proofs.lemmas.Int.{ints}
use Rattle.std.proofs.lemmas.List.{at_drop_more}
use Rattle.cel_value.specs.Data.{Values, no_values, item, list, integer}
use Rattle.cel_value.specs.View.{value_of, values_of}
use Rattle.cel_value.specs.declared.value.Value.{Value}
use Rattle.cel_eval.specs.declared.stop.Fault.TheVariants.{IndexOutOfRange}
use Rattle.cel_eval.specs.Outcome.{value, error, value_or}
use Rattle.cel_eval.specs.Operators.{joined, indexed, item_at}

pub values_append : (xs ys : List Value) → values_of (xs ++ ys) ≡ joined (values_of xs) (values_of ys)
values_append [] ys = refl
values_append (x ∷ xs) ys = ap (item (value_of x)) (values_append xs ys)

joined_assoc : (us vs ws : Values) → joined (joined us vs) ws ≡ joined us (joined vs ws)
joined_assoc no_values vs ws = refl
joined_assoc (item u us) vs ws = ap (item u) (joined_assoc us vs ws)

pub joined_none : (vs : Values) → joined vs no_values ≡ vs
joined_none no_values = refl
joined_none (item v vs) = ap (item v) (joined_none vs)

-- one more value at the end of those that were made
pub joined_more : (xs : List Value) (y : Value) (vs : Values) → joined (values_of (xs ++ y ∷ [])) vs ≡ joined (values_of xs) (item (value_of y) vs)
joined_more xs y vs = ap (λ ws. joined ws vs) (values_append xs (y ∷ [])) ∙ joined_assoc (values_of xs) (item (value_of y) no_values) vs

-- the values that are left, at one that is there
pub values_left : (xs : List Value) (i : ℕ) (x : Value) → i < length xs → x ≡ get_or xs i x → values_of (drop i xs) ≡ item (value_of x) (values_of (drop (i + 1) xs))
values_left xs i x h p = at_drop_more values_of xs i x h ∙ ap (λ z. item (value_of z) (values_of (drop (i + 1) xs))) (sym p)

-- the value at an index
value_there : (xs : List Value) (i : ℕ) (x : Value) → i < length xs → x ≡ get_or xs i x → item_at i (values_of xs) ≡ Some (value_of x)
value_there [] i x h e = absurd (omega arith)
value_there (y ∷ xs) zero x h e = ap (λ z. Some (value_of z)) (sym e)
value_there (y ∷ xs) (suc i) x h e = value_there xs i x (omega arith) e

value_missing : (xs : List Value) (i : ℕ) → length xs ≤ i → item_at i (values_of xs) ≡ None
value_missing [] i h = refl
value_missing (x ∷ xs) zero h = absurd (omega arith)
value_missing (x ∷ xs) (suc i) h = value_missing xs i (omega arith)

pub indexed_in : (vs : Values) (xs : List Value) (z : ℤ) (i : ℕ) (x : Value) → values_of xs ≡ vs → z ≡ pos i → i < length xs → x ≡ get_or xs i x
    → indexed (list vs) (integer z) ≡ value (value_of x)
indexed_in vs xs z i x e p h q = rw p (ap (value_or IndexOutOfRange) (ap (item_at i) (sym e) ∙ value_there xs i x h q))

pub indexed_past : (vs : Values) (xs : List Value) (z : ℤ) (i : ℕ) → values_of xs ≡ vs → z ≡ pos i → length xs ≤ i
    → indexed (list vs) (integer z) ≡ error IndexOutOfRange
indexed_past vs xs z i e p h = rw p (ap (value_or IndexOutOfRange) (ap (item_at i) (sym e) ∙ value_missing xs i h))

pub indexed_negative : (vs : Values) (z : ℤ) → z <ℤ pos 0 → indexed (list vs) (integer z) ≡ error IndexOutOfRange
indexed_negative vs (pos n) h = absurd (omega (arith, ints))
indexed_negative vs (negsuc n) h = refl
