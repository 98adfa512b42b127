-- The plain data that a field of the code represents.
use Rattle.std.specs.Prelude.{option_map}
use Rattle.jtree.specs.View.{data_of}
use Rattle.explain.specs.Fields.Field.{Field}
use Rattle.explain.specs.declared.field.Field.{Field as CodeField}

abbrev pub field_of : CodeField → Field
field_of f = record {
  path = f.path;
  type_text = f.type_text;
  required = f.required;
  nullable = f.nullable;
  list_type = f.list_type;
  map_type = f.map_type;
  keys = f.keys.items;
  choices = f.choices;
  default = option_map data_of f.default;
  description = f.description;
}
