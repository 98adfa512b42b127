-- Of which kind a tree is (JSON, RFC 8259).
use Rattle.std.specs.Prelude.{Bool, true, false}
use Rattle.jtree.specs.Data.{Data, boolean, integer, text, list, object}

abbrev pub is_boolean : Data → Bool
is_boolean (boolean b) = true
is_boolean _ = false

abbrev pub is_integer : Data → Bool
is_integer (integer z) = true
is_integer _ = false

abbrev pub is_text : Data → Bool
is_text (text s) = true
is_text _ = false

abbrev pub is_list : Data → Bool
is_list (list ds) = true
is_list _ = false

abbrev pub is_object : Data → Bool
is_object (object ms) = true
is_object _ = false
