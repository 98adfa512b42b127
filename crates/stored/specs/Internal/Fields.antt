-- A field of the code as what a node declares.
use Rattle.std.specs.Prelude.{option_map}
use Rattle.jtree.specs.View.{data_of}
use Rattle.schema.specs.Nodes.View.{node_of}
use Rattle.schema.specs.Nodes.ByPlace.{Declared}
use Rattle.schema.specs.declared.node.Field.{Field}

abbrev pub declared_of : Field → Declared
declared_of f = record { node = node_of f.node; required = f.required; default = option_map data_of f.default }
