use Rattle.std.proofs.Common.{◌≡◌, ◌+◌, ◌-◌, ◌^◌, ◌≤◌, length, min}
use Rattle.jtree.specs.Data.{depth}
use Rattle.jtree.specs.Last.{last_of}
use Rattle.jtree.specs.View.{data_of}
use Rattle.jtree.specs.Internal.LastText.{text_after}
use Rattle.jtree.proofs.last.find_last.Given as goal

abbrev pub invariant-loop-part : goal.invariant-loop-part
invariant-loop-part l = record {
  node : last_of (data_of l.node) ≡ last_of (data_of l.tree);
  fits : l.after ≤ 2 ^ 64 - 1;
  after : min (l.after + length (text_after (data_of l.node))) (2 ^ 64 - 1) ≡ min (length (text_after (data_of l.tree))) (2 ^ 64 - 1);
}

abbrev pub decreases-loop-part : goal.decreases-loop-part
decreases-loop-part l = depth (data_of l.node)
