-- What is below a node or a branch nests less deep than the whole: the measure of recursions over a schema.
use Rattle.std.specs.Prelude.{◌≤◌, max, List, [], ◌∷◌}
use Rattle.std.proofs.Common.{arith}
use Rattle.schema.specs.Nodes.Node.{branches_depth, node_depth, sort_depth, fields_depth}
use Rattle.schema.specs.Nodes.View.{branches_of, sort_of, node_of, fields_of}
use Rattle.schema.specs.declared.node.Validations.{Validations}
use Rattle.schema.specs.declared.node.Node.{Node}
use Rattle.schema.specs.declared.node.Field.{Field}
use Rattle.schema.specs.declared.node.Branches.TheDeep.{deep-Validations}
use Rattle.schema.specs.declared.node.Sort.{Sort}
use Rattle.schema.specs.declared.node.Sort.TheVariants as sort
use Rattle.schema.specs.declared.node.Below.TheDeep.{deep-Sort, deep-Field}
use denote.Param.Weighed.{most}

pub branches_decrease : (cs : List Validations) → max (most (λ c. deep-Validations c) cs) 0 ≤ branches_depth (branches_of cs)
branches_decrease [] = omega arith
branches_decrease (c ∷ cs) = omega (arith, branches_decrease cs)

sort_decreases : (S : Sort) → deep-Sort S ≤ sort_depth (sort_of S)
sort_decreases sort.Open = omega arith
sort_decreases _ = omega arith

pub below_decreases : (N : Node) → max (max (deep-Sort N.sort) 0) 0 ≤ node_depth (node_of N)
below_decreases N = omega (arith, sort_decreases N.sort)

pub fields_decrease : (fs : List Field) → max (most (λ f. deep-Field f) fs) 0 ≤ fields_depth (fields_of fs)
fields_decrease [] = omega arith
fields_decrease (f ∷ fs) = omega (arith, below_decreases f.node, fields_decrease fs)
