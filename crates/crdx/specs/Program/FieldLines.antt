-- What `explain` prints of the fields of a schema: a line for each, and of one field alone its description and its values
-- besides (this project's own).
use Rattle.std.specs.Prelude.{ℕ, List, [], ◌++◌, Bool, Option, Some, None, if◌then◌else◌, flat_map, codes}
use Rattle.jtree.specs.Data.{Data, text, list, Items, no_items}
use Rattle.jtree.specs.Text.{compact}
use Rattle.schema.specs.declared.node.ListType.{ListType}
use Rattle.schema.specs.declared.node.ListType.TheVariants.{Set, Map}
use Rattle.schema.specs.declared.node.MapType.{MapType}
use Rattle.schema.specs.declared.node.MapType.TheVariants.{Atomic}
use Rattle.explain.specs.Fields.Field.{Field}
use Rattle.crdx.specs.Program.TextList.{text_list}

-- ---- the words after the type, each after a space where it applies

abbrev pub word_if : Bool → List ℕ → List ℕ
word_if applies word = if applies then word else []

abbrev pub list_type_word : Option ListType → List ℕ
list_type_word (Some (Set e)) = codes " list-type=set"
list_type_word (Some (Map e)) = codes " list-type=map"
list_type_word _ = []

abbrev pub keys_word : List (List ℕ) → List ℕ
keys_word [] = []
keys_word keys = codes " keys=" ++ text_list keys

abbrev pub map_type_word : Option MapType → List ℕ
map_type_word (Some Atomic) = codes " map-type=atomic"
map_type_word _ = []

abbrev pub default_word : Option Data → List ℕ
default_word None = []
default_word (Some v) = codes " default=" ++ compact v

-- ---- lines

-- the path as a JSON text, the type, and the words
abbrev pub field_line : Field → List ℕ
field_line f = compact (text f.path) ++ (codes " <" ++ (f.type_text ++ (codes ">" ++ (word_if f.required (codes " required") ++ (word_if f.nullable (codes " nullable")
    ++ (list_type_word f.list_type ++ (keys_word f.keys ++ (map_type_word f.map_type ++ (default_word f.default ++ codes "\n")))))))))

abbrev pub field_lines : List Field → List ℕ
field_lines fs = flat_map field_line fs

abbrev pub description_line : Option (List ℕ) → List ℕ
description_line None = []
description_line (Some said) = codes "description " ++ (compact (text said) ++ codes "\n")

abbrev pub enum_line : Items → List ℕ
enum_line no_items = []
enum_line choices = codes "enum " ++ (compact (list choices) ++ codes "\n")

-- of one field alone
abbrev pub all_of_field : Field → List ℕ
all_of_field f = field_line f ++ (description_line f.description ++ enum_line f.choices)
