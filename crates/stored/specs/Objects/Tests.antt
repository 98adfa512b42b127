-- What is asked of a value: of a scalar, and of an object by its junctors (OpenAPI 3.0, Schema Object). Bounds say nothing of strings and
-- booleans, and lengths nothing of integers and booleans. An exclusive flag without its bound says nothing. Where the schema is kept as it is
-- written, a scalar is asked by that alone, as a cluster asks (k8s.io/kube-openapi, pkg/validation).
use Rattle.std.specs.Prelude.{ℕ, ℤ, List, [], ◌∷◌, length, Bool, true, false, Option, Some, None, if◌then◌else◌, not, ◌&&◌, ◌||◌, ◌+◌, nat_lt, nat_eq, int_lt, int_le, codes, chars}
use Rattle.std.specs.Option.{is_some}
use Rattle.std.specs.Ordering.{is_eq}
use Rattle.jtree.specs.Data.{Data, Items, no_items, item, Members}
use Rattle.jtree.specs.Data as tree
use Rattle.jtree.specs.Kind.{is_boolean, is_integer, is_text}
use Rattle.jtree.specs.Order.{tree_cmp}
use Rattle.jtree.specs.Path.{member_at}
use Rattle.judge.specs.Keywords.{passes_enum, passes_minimum, passes_maximum, passes_length, is_at_least, is_at_most}
use Rattle.schema.specs.Document.Forms.{is_number}
use Rattle.schema.specs.Nodes.Node.{Validations, validations, Branches, no_branches, branch}
use Rattle.schema.specs.declared.node.Constraints.{Constraints}
use Rattle.schema.specs.declared.node.ScalarKind.{ScalarKind}
use Rattle.schema.specs.declared.node.ScalarKind.TheVariants.{Boolean, Integer, Number, String, IntOrString}

-- the kinds of scalars
abbrev pub accepts_scalar : ScalarKind → Data → Bool
accepts_scalar Boolean v = is_boolean v
accepts_scalar Integer v = is_integer v
accepts_scalar Number v = is_number v
accepts_scalar String v = is_text v
accepts_scalar IntOrString v = is_integer v || is_text v

-- two trees are the same
abbrev pub is_same : Data → Data → Bool
is_same v w = is_eq (tree_cmp v w)

abbrev pub is_choice : Data → Items → Bool
is_choice v no_items = false
is_choice v (item d ds) = is_same v d || is_choice v ds

abbrev pub is_below : Option ℕ → ℕ → Bool
is_below None n = false
is_below (Some least) n = nat_lt n least

abbrev pub is_above : Option ℕ → ℕ → Bool
is_above None n = false
is_above (Some most) n = nat_lt most n

-- ---- `enum`, `minimum`, `maximum`, `minLength`, `maxLength`

abbrev pub is_other_value : Option Items → Data → Bool
is_other_value None v = false
is_other_value (Some ds) v = not (is_choice v ds)

-- below the bound, or equal to it where it is exclusive
abbrev pub is_below_minimum : Option ℤ → Bool → Data → Bool
is_below_minimum (Some least) exclusive (tree.integer z) = if exclusive then int_le z least else int_lt z least
is_below_minimum _ _ _ = false

abbrev pub is_above_maximum : Option ℤ → Bool → Data → Bool
is_above_maximum (Some most) exclusive (tree.integer z) = if exclusive then int_le most z else int_lt most z
is_above_maximum _ _ _ = false

-- lengths are counted in Unicode scalar values
abbrev pub is_too_short : Option ℕ → Data → Bool
is_too_short least (tree.text s) = is_below least (length (chars s))
is_too_short _ _ = false

abbrev pub is_too_long : Option ℕ → Data → Bool
is_too_long most (tree.text s) = is_above most (length (chars s))
is_too_long _ _ = false

-- whether the schema as it is written is not passed, where it is kept, and else this
abbrev pub fails_by : Option Members → (Members → Bool) → Bool → Bool
fails_by None passes fails = fails
fails_by (Some ks) passes fails = not (passes ks)

abbrev pub fails_enum : Constraints → Data → Bool
fails_enum t v = fails_by t.written (λ ks. passes_enum (member_at (codes "enum") ks) v) (is_other_value t.choices v)

-- of null, `enum` alone is asked, and only by the schema as it is written
abbrev pub null_fails_enum : Constraints → Bool
null_fails_enum t = fails_by t.written (λ ks. passes_enum (member_at (codes "enum") ks) tree.null) false

abbrev pub fails_minimum : Constraints → Data → Bool
fails_minimum t v = fails_by t.written (λ ks. passes_minimum ks v) (is_below_minimum t.minimum t.exclusive_minimum v)

abbrev pub fails_maximum : Constraints → Data → Bool
fails_maximum t v = fails_by t.written (λ ks. passes_maximum ks v) (is_above_maximum t.maximum t.exclusive_maximum v)

abbrev pub fails_least_length : Constraints → Data → Bool
fails_least_length t v = fails_by t.written (λ ks. passes_length (is_at_least (member_at (codes "minLength") ks)) v) (is_too_short t.lengths.least v)

abbrev pub fails_most_length : Constraints → Data → Bool
fails_most_length t v = fails_by t.written (λ ks. passes_length (is_at_most (member_at (codes "maxLength") ks)) v) (is_too_long t.lengths.most v)

-- a scalar fails none of the five
abbrev pub meets_constraints : Constraints → Data → Bool
meets_constraints t v =
    not (fails_enum t v) && (not (fails_minimum t v) && (not (fails_maximum t v) && (not (fails_least_length t v) && not (fails_most_length t v))))

-- ---- `required`

-- there are members of all the names
abbrev pub has_all : List (List ℕ) → (List ℕ → Bool) → Bool
has_all [] has = true
has_all (k ∷ ks) has = has k && has_all ks has

abbrev pub has_member : Members → List ℕ → Bool
has_member ms k = is_some (member_at k ms)

abbrev pub has_names : (List ℕ → Bool) → Constraints → Bool
has_names has t = has_all t.required has

-- what a branch asks itself: of an object that it has the names, of any other value what is asked of a scalar
abbrev pub meets_branch : Data → Constraints → Bool
meets_branch (tree.object ms) = has_names (has_member ms)
meets_branch v = λ t. meets_constraints t v

-- ---- junctors

abbrev pub is_absent : Branches → Bool
is_absent no_branches = true
is_absent _ = false

-- A branch holds where its constraints pass the test and its own junctors hold.
abbrev mutual
  pub holds_by : (Constraints → Bool) → Validations → Bool
  holds_by test (validations t all any one negated) =
      test t && (all_hold test all && ((is_absent any || any_holds test any) && ((is_absent one || nat_eq (holding test one) 1) && not (any_holds test negated))))

  pub all_hold : (Constraints → Bool) → Branches → Bool
  all_hold test no_branches = true
  all_hold test (branch c cs) = holds_by test c && all_hold test cs

  pub any_holds : (Constraints → Bool) → Branches → Bool
  any_holds test no_branches = false
  any_holds test (branch c cs) = holds_by test c || any_holds test cs

  -- how many branches hold
  pub holding : (Constraints → Bool) → Branches → ℕ
  holding test no_branches = 0
  holding test (branch c cs) = (if holds_by test c then 1 else 0) + holding test cs

-- `allOf` asks for all branches, `anyOf` for one at least, `oneOf` for exactly one, and `not` that its branch does not hold. A
-- junctor that is absent has no branches, and asks nothing.
abbrev pub meets_junctors_by : (Constraints → Bool) → Validations → Bool
meets_junctors_by test (validations t all any one negated) =
    all_hold test all && ((is_absent any || any_holds test any) && ((is_absent one || nat_eq (holding test one) 1) && not (any_holds test negated)))

-- of a value
abbrev pub holds : Validations → Data → Bool
holds cs v = holds_by (meets_branch v) cs

abbrev pub meets_junctors : Validations → Data → Bool
meets_junctors cs v = meets_junctors_by (meets_branch v) cs

-- of an object, by the names that it has
abbrev pub meets_presence : Validations → (List ℕ → Bool) → Bool
meets_presence cs has = meets_junctors_by (has_names has) cs
