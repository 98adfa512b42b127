use Rattle.std.proofs.Common.{◌≡◌, ◌++◌, drop}
use Rattle.schema.specs.Nodes.View.{branches_of}
use Rattle.schema.specs.Nodes.Junctors.{names_of}
use Rattle.plan.proofs.presence.+names.Given as goal

abbrev pub invariant-push_branch_names-loop-branch : goal.invariant-push_branch_names-loop-branch
invariant-push_branch_names-loop-branch l = l.names.items ++ names_of (branches_of (drop l.branch-index l.branch-items)) ≡ l.initial.names.items ++ names_of l.branches
