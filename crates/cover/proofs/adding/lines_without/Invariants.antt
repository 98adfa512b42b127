use Rattle.std.proofs.Common.{◌≡◌, ◌≤◌, ◌-◌, All, false, length, take, option_map}
use Rattle.jtree.specs.View.{data_of}
use Rattle.cover.specs.There.{is_there}
use Rattle.cover.specs.Internal.Ways.{path_of}
use Rattle.cover.proofs.adding.lines_without.Given as goal

abbrev pub invariant-loop-at : goal.invariant-loop-at
invariant-loop-at l = record {
  within : l.at ≤ length l.lines;
  without : All (λ m. is_there (option_map (λ w. data_of w.now) l.value) (path_of l.steps) (data_of m.tree) ≡ false) (take l.at l.lines);
}

abbrev pub decreases-loop-at : goal.decreases-loop-at
decreases-loop-at l = length l.lines - l.at
