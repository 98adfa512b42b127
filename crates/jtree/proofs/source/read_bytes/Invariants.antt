use Rattle.std.proofs.Common.{◌≡◌, ◌+◌, ◌-◌, ◌≤◌, length}
use Rattle.std.specs.Io.KnownBytes.{Consumes}
use Rattle.jtree.specs.Reads.{most_bytes}
use Rattle.jtree.proofs.source.read_bytes.Given as goal

abbrev pub invariant-read : goal.invariant-read
invariant-read g l = record {
  taken : Consumes (g.R.Source.remaining l.initial.source) (g.R.Source.remaining l.source) l.bytes.items;
  short : length l.bytes.items ≤ most_bytes + 1;
  failures : g.R.Source.failures l.source ≡ g.R.Source.failures l.initial.source;
}

abbrev pub decreases-read : goal.decreases-read
decreases-read g l = most_bytes + 1 - length l.bytes.items
