-- Keys of maps as values. Common Expression Language specification, "Values" (langdef.md): a key is a boolean, an integer or a string.
use Rattle.std.specs.Prelude.{Option, Some, None}
use Rattle.cel_value.specs.Data.{Value, boolean, integer, string, Key, boolean_key, integer_key, string_key}

-- a value as a key
abbrev pub key_of : Value → Option Key
key_of (boolean b) = Some (boolean_key b)
key_of (integer z) = Some (integer_key z)
key_of (string t) = Some (string_key t)
key_of _ = None

abbrev pub value_of_key : Key → Value
value_of_key (boolean_key b) = boolean b
value_of_key (integer_key z) = integer z
value_of_key (string_key t) = string t
