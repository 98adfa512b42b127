-- A path of a field is there in a value: under each name on the way there is a member, and each list and each map on the way has
-- an item, in every one of which the rest of the path is there. So nothing is below a null. With a value, each value at its end is
-- that one (this project's own).
use Rattle.std.specs.Prelude.{[], ◌∷◌, Bool, true, false, Option, Some, None, ◌&&◌}
use Rattle.jtree.specs.Data.{Data, Items, no_items, item, Members, no_members, member}
use Rattle.jtree.specs.Data as tree
use Rattle.jtree.specs.Path.{member_at}
use Rattle.stored.specs.Objects.Tests.{is_same}
use Rattle.explain.specs.Paths.FieldPath.{FieldPath}
use Rattle.explain.specs.Paths.FieldPath as step

abbrev pub has_value : (Data → Bool) → Option Data → Bool
has_value test None = false
has_value test (Some v) = test v

abbrev pub all_items : (Data → Bool) → Items → Bool
all_items test no_items = true
all_items test (item d ds) = test d && all_items test ds

abbrev pub all_values : (Data → Bool) → Members → Bool
all_values test no_members = true
all_values test (member k d ms) = test d && all_values test ms

-- there is an item, and all pass the test
abbrev pub has_items : (Data → Bool) → Items → Bool
has_items test no_items = false
has_items test (item d ds) = all_items test (item d ds)

abbrev pub has_values : (Data → Bool) → Members → Bool
has_values test no_members = false
has_values test (member k d ms) = all_values test (member k d ms)

-- any value, or this one
abbrev pub is_one : Option Data → Data → Bool
is_one None v = true
is_one (Some w) v = is_same v w

abbrev pub is_there : Option Data → FieldPath → Data → Bool
is_there o [] v = is_one o v
is_there o (step.field k ∷ p) (tree.object ms) = has_value (λ w. is_there o p w) (member_at k ms)
is_there o (step.item ∷ p) (tree.list ds) = has_items (λ w. is_there o p w) ds
is_there o (step.value ∷ p) (tree.object ms) = has_values (λ w. is_there o p w) ms
is_there o _ _ = false
