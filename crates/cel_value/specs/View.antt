-- The plain data that values of the code represent.
use Rattle.std.specs.Prelude.{List, [], ◌∷◌}
use Rattle.cel_value.specs.Data as plain
use Rattle.cel_value.specs.declared.value.Value.{Value}
use Rattle.cel_value.specs.declared.value.Value.TheVariants as value
use Rattle.cel_value.specs.declared.value.Entry.{Entry}
use Rattle.cel_value.specs.declared.value.Key.{Key}
use Rattle.cel_value.specs.declared.value.Key.TheVariants as key
use Rattle.cel_value.specs.declared.key.BorrowedKey.{BorrowedKey}
use Rattle.cel_value.specs.declared.key.BorrowedKey.TheVariants as borrowed

abbrev pub value_of : Value → plain.Value
value_of value.Null = plain.null
value_of (value.Bool b) = plain.boolean b
value_of (value.Int z) = plain.integer z
value_of (value.String t) = plain.string t
value_of (value.List vs) = plain.list vs
value_of (value.Map es) = plain.map es

abbrev pub key_of : Key → plain.Key
key_of (key.Bool b) = plain.boolean_key b
key_of (key.Int z) = plain.integer_key z
key_of (key.String t) = plain.string_key t

abbrev pub borrowed_of : BorrowedKey → plain.Key
borrowed_of (borrowed.Bool b) = plain.boolean_key b
borrowed_of (borrowed.Int z) = plain.integer_key z
borrowed_of (borrowed.String t) = plain.string_key t.now

abbrev pub values_of : List Value → plain.Values
values_of [] = plain.no_values
values_of (v ∷ vs) = plain.item (value_of v) (values_of vs)

abbrev pub entries_of : List Entry → plain.Entries
entries_of [] = plain.no_entries
entries_of (e ∷ es) = plain.entry (key_of e.key) (value_of e.value) (entries_of es)
