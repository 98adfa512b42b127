-- What a node of the code stands for.
use Rattle.std.specs.Prelude.{List, [], ◌∷◌, option_map}
use Rattle.jtree.specs.View.{data_of}
use Rattle.schema.specs.Nodes.Node.{Validations, validations, Branches, no_branches, branch, Node, node, Sort, scalar, object, map, list, open_, Fields, no_fields, field}
use Rattle.schema.specs.declared.node.Validations.{Validations as CodeValidations}
use Rattle.schema.specs.declared.node.Node.{Node as CodeNode}
use Rattle.schema.specs.declared.node.Sort.{Sort as CodeSort}
use Rattle.schema.specs.declared.node.Sort.TheVariants as sort
use Rattle.schema.specs.declared.node.ScalarNode.{ScalarNode}
use Rattle.schema.specs.declared.node.ObjectNode.{ObjectNode}
use Rattle.schema.specs.declared.node.MapNode.{MapNode}
use Rattle.schema.specs.declared.node.ListNode.{ListNode}
use Rattle.schema.specs.declared.node.Field.{Field as CodeField}

abbrev pub validations_of : CodeValidations → Validations
validations_of c = validations c.constraints c.all_of c.any_of c.one_of c.negated

abbrev pub branches_of : List CodeValidations → Branches
branches_of [] = no_branches
branches_of (c ∷ cs) = branch (validations_of c) (branches_of cs)

abbrev pub scalar_of : ScalarNode → Sort
scalar_of n = scalar n.kind (validations_of n.validations)

abbrev pub object_of : ObjectNode → Sort
object_of n = object n.fields n.preserves n.map_type n.bounds (validations_of n.junctors)

abbrev pub map_of : MapNode → Sort
map_of n = map n.value n.map_type n.bounds

abbrev pub list_of : ListNode → Sort
list_of n = list n.item n.list_type n.keys.items n.bounds

abbrev pub sort_of : CodeSort → Sort
sort_of (sort.Scalar n) = scalar_of n
sort_of (sort.Object n) = object_of n
sort_of (sort.Map n) = map_of n
sort_of (sort.List n) = list_of n
sort_of sort.Open = open_

abbrev pub node_of : CodeNode → Node
node_of n = node n.nullable n.description (sort_of n.sort)

abbrev pub fields_of : List CodeField → Fields
fields_of [] = no_fields
fields_of (f ∷ fs) = field f.name (node_of f.node) f.required (option_map data_of f.default) (fields_of fs)
