-- Which node of a schema a part of an object has. Where it has none the part is free: under a name that is not declared,
-- below an open node, and where a value is not of its node's kind (apiextensions.k8s.io/v1, structural schemas).
use Rattle.std.specs.Prelude.{[], ◌∷◌, Bool, Option, Some, None, option_map, option_and_then}
use Rattle.jtree.specs.Data.{Data, Items, Members}
use Rattle.jtree.specs.Data as tree
use Rattle.jtree.specs.Path.{Step, name, index, Path, part_by}
use Rattle.schema.specs.Nodes.Node.{Node, node, object, map, list, Fields}
use Rattle.schema.specs.Nodes.ByPlace.{field_at}

-- A value beside its node, as far as it has parts with nodes: an object with declared fields, a map or a list.
pub data Pair : Type 0 where
  -- the fields, whether others are kept, and the members
  fields : Fields → Bool → Members → Pair
  -- the node of each value, and the members
  values : Node → Members → Pair
  -- the node of each item, and the items
  items : Node → Items → Pair
  -- any other value
  whole : Pair

abbrev pub pair : Node → Data → Pair
pair (node nullable description (object fs preserves type bounds cs)) (tree.object ms) = fields fs preserves ms
pair (node nullable description (map N type bounds)) (tree.object ms) = values N ms
pair (node nullable description (list N type keys bounds)) (tree.list ds) = items N ds
pair _ _ = whole

-- the node of the part to which a step leads
abbrev pub node_by : Pair → Step → Option Node
node_by (fields fs preserves ms) (name k) = option_map (λ f. f.node) (field_at k fs)
node_by (values N ms) (name k) = Some N
node_by (items N ds) (index i) = Some N
node_by _ _ = None

-- a part of an object, with its node, or free
pub data Part : Type 0 where
  at : Node → Data → Part
  free : Data → Part

abbrev pub part_of : Option Node → Data → Part
part_of (Some N) v = at N v
part_of None v = free v

abbrev pub value_of : Part → Data
value_of (at N v) = v
value_of (free v) = v

-- What a step leads to from a value at its node: in the object as it is, or in what becomes of it.
abbrev pub Leading : Type 0
Leading = Node → Data → Step → Option Part

-- below a free part all parts are free, and stay
abbrev pub part_by_step : Leading → Part → Step → Option Part
part_by_step lead (at N v) s = lead N v s
part_by_step lead (free v) s = option_map free (part_by v s)

-- what a path leads to
abbrev pub part_by_path : Leading → Part → Path → Option Part
part_by_path lead q [] = Some q
part_by_path lead q (s ∷ path) = option_and_then (λ r. part_by_path lead r path) (part_by_step lead q s)

-- in the object as it is
abbrev pub leads : Leading
leads N v s = option_map (part_of (node_by (pair N v) s)) (part_by v s)
