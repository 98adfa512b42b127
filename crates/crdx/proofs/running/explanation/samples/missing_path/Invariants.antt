use Rattle.std.proofs.Common.{length, ◌<◌}
use Rattle.plan.specs.Samples.Sites.{sites_of}
use Rattle.crdx.proofs.running.explanation.samples.missing_path.Given as goal

abbrev pub invariant-loop : goal.invariant-loop
invariant-loop l = l.node < length (sites_of l.plan.pools l.plan.root)
