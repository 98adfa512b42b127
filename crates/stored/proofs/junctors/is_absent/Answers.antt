use Rattle.std.proofs.Common.{◌∙◌, ap}
use Rattle.schema.specs.Nodes.View.{branches_of}
use Rattle.stored.specs.Objects.Tests.{is_absent}
use Rattle.stored.proofs.TestLemmas.{some_branches}
use Rattle.stored.proofs.junctors.is_absent.Goals as goal

pub returns-in_default : goal.returns-in_default
returns-in_default c =
    some_branches c.as_slice.result.now c.in_default.len_at_least ∙ ap is_absent (ap branches_of c.as_slice.ensures.value ∙ c.branches.view_is)
