-- What is found in the constraints of all scalar nodes of a schema, one after another, where f finds it in those of one place (this
-- project's own).
use Rattle.std.specs.Prelude.{List, [], ◌++◌}
use Rattle.schema.specs.Nodes.Node.{Validations, validations, Branches, no_branches, branch, Node, node, Sort, scalar, object, map, list, Fields, no_fields, field}
use Rattle.schema.specs.declared.node.Constraints.{Constraints}

-- in those of a scalar, and in the branches of its junctors at any depth
abbrev mutual
  pub in_scalar : {X : Type 0} → (Constraints → List X) → Validations → List X
  in_scalar f (validations t all any one negated) = f t ++ (in_branches f all ++ (in_branches f any ++ (in_branches f one ++ in_branches f negated)))

  pub in_branches : {X : Type 0} → (Constraints → List X) → Branches → List X
  in_branches f no_branches = []
  in_branches f (branch c cs) = in_scalar f c ++ in_branches f cs

-- in those of a node and of all nodes below it
abbrev mutual
  pub in_scalars : {X : Type 0} → (Constraints → List X) → Node → List X
  in_scalars f (node nullable description sort) = in_sort f sort

  pub in_sort : {X : Type 0} → (Constraints → List X) → Sort → List X
  in_sort f (scalar kind cs) = in_scalar f cs
  in_sort f (object fs preserves type bounds cs) = in_fields f fs
  in_sort f (map N type bounds) = in_scalars f N
  in_sort f (list N type keys bounds) = in_scalars f N
  in_sort f _ = []

  pub in_fields : {X : Type 0} → (Constraints → List X) → Fields → List X
  in_fields f no_fields = []
  in_fields f (field k N required default fs) = in_scalars f N ++ in_fields f fs
