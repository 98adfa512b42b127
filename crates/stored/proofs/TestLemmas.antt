-- What is asked of scalars.
use Rattle.std.specs.Prelude.{◌≡◌, ◌≤◌, List, [], ◌∷◌, length, false}
use Rattle.std.proofs.Common.{refl, arith}
use Rattle.schema.specs.Nodes.View.{branches_of}
use Rattle.schema.specs.declared.node.Validations.{Validations}
use Rattle.stored.specs.Objects.Tests.{is_absent}

pub some_branches : (cs : List Validations) → 1 ≤ length cs → false ≡ is_absent (branches_of cs)
some_branches [] some = absurd (omega arith)
some_branches (c ∷ cs) some = refl
