use Rattle.std.proofs.Common.{◌≡◌, ◌≤◌, ◌-◌, length, take}
use Rattle.std.specs.Io.KnownBytes.{Appends}
use Rattle.crdx.proofs.sink.put_all.Given as goal

abbrev pub invariant-put : goal.invariant-put
invariant-put g l = record {
  in_range : l.at ≤ length l.bytes;
  taken : Appends (g.W.Sink.taken l.initial.sink) (g.W.Sink.taken l.sink) (take l.at l.bytes);
  failures : g.W.Sink.failures l.sink ≡ g.W.Sink.failures l.initial.sink;
}

abbrev pub decreases-put : goal.decreases-put
decreases-put g l = length l.bytes - l.at
