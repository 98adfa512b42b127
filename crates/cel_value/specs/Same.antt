-- Equality of values. Common Expression Language specification, "Equality" (langdef.md): values of different types are not equal, lists are where
-- their items are in order, and maps where they have the same keys with equal values under them, in any order.
use Rattle.std.specs.Prelude.{ℕ, ◌+◌, Bool, true, false, ◌&&◌, nat_eq, Option, Some, None, if◌then◌else◌}
use Rattle.std.specs.Bool.{beq}
use Rattle.std.specs.Ordering.{int_eq}
use Rattle.cel_value.specs.Data.{Value, null, boolean, integer, string, list, map, Key, boolean_key, integer_key, string_key, Values, no_values, item, Entries, no_entries, entry}
use lib.Pointwise.{pointwise}

abbrev pub same_key : Key → Key → Bool
same_key (boolean_key a) (boolean_key b) = beq a b
same_key (integer_key a) (integer_key b) = int_eq a b
same_key (string_key s) (string_key t) = pointwise nat_eq s t
same_key _ _ = false

-- what is under the key
abbrev pub value_at : Key → Entries → Option Value
value_at k no_entries = None
value_at k (entry l v es) = if same_key k l then Some v else value_at k es

abbrev pub entries_count : Entries → ℕ
entries_count no_entries = 0
entries_count (entry k v es) = 1 + entries_count es

-- there is a value, and it passes
abbrev pub is_there : (Value → Bool) → Option Value → Bool
is_there test None = false
is_there test (Some v) = test v

abbrev mutual
  pub same : Value → Value → Bool
  same null null = true
  same (boolean a) (boolean b) = beq a b
  same (integer a) (integer b) = int_eq a b
  same (string s) (string t) = pointwise nat_eq s t
  same (list vs) (list ws) = same_values vs ws
  same (map es) (map fs) = nat_eq (entries_count es) (entries_count fs) && has_entries es fs
  same _ _ = false

  pub same_values : Values → Values → Bool
  same_values no_values no_values = true
  same_values (item v vs) (item w ws) = same v w && same_values vs ws
  same_values _ _ = false

  -- each entry of the first map is one of the second
  pub has_entries : Entries → Entries → Bool
  has_entries no_entries fs = true
  has_entries (entry k v es) fs = is_there (same v) (value_at k fs) && has_entries es fs
