use Rattle.std.proofs.Common.{◌≡◌, ◌++◌, drop}
use Rattle.schema.specs.Nodes.View.{branches_of}
use Rattle.suggest.specs.Suggested.Scalars.{in_branches}
use Rattle.suggest.specs.Suggested.Values.{bounds_with_neighbours, short_lengths}
use Rattle.suggest.proofs.finding.+validations.Given as goal

-- with the branches that are left, all is found
abbrev pub invariant-add_branches-loop-branch : goal.invariant-add_branches-loop-branch
invariant-add_branches-loop-branch l = record {
  integers : l.found.integers.items ++ in_branches bounds_with_neighbours (branches_of (drop l.branch-index l.branch-items)) ≡ l.initial.found.integers.items ++ in_branches bounds_with_neighbours l.branches;
  lengths : l.found.lengths.items ++ in_branches short_lengths (branches_of (drop l.branch-index l.branch-items)) ≡ l.initial.found.lengths.items ++ in_branches short_lengths l.branches;
}
