use Rattle.std.proofs.Common.{◌≡◌, ◌+◌, ◌≤◌, drop}
use Rattle.schema.specs.Nodes.View.{branches_of}
use Rattle.stored.specs.Objects.Tests.{all_hold, any_holds, holding}
use Rattle.stored.proofs.junctors.+branches.Given as goal

-- what is asked of all branches is what is asked of those that are left
abbrev pub invariant-all_hold-loop-branch : goal.invariant-all_hold-loop-branch
invariant-all_hold-loop-branch g l = all_hold (g.T.BranchTest.test l.test) (branches_of (drop l.branch-index l.branch-items)) ≡ all_hold (g.T.BranchTest.test l.test) l.branches

abbrev pub invariant-any_holds-loop-branch : goal.invariant-any_holds-loop-branch
invariant-any_holds-loop-branch g l = any_holds (g.T.BranchTest.test l.test) (branches_of (drop l.branch-index l.branch-items)) ≡ any_holds (g.T.BranchTest.test l.test) l.branches

abbrev pub invariant-holding-loop-branch : goal.invariant-holding-loop-branch
invariant-holding-loop-branch g l =
    (l.count + holding (g.T.BranchTest.test l.test) (branches_of (drop l.branch-index l.branch-items)) ≡ holding (g.T.BranchTest.test l.test) l.branches) × (l.count ≤ l.branch-index)
