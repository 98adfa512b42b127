use Rattle.std.proofs.Common.{rules, arith}
use Rattle.jtree.specs.Nodes.{node_count}
use Rattle.jtree.specs.View.{data_of}
use Rattle.enumerate.proofs.walks.Costs.{costs_within}
use Rattle.enumerate.proofs.walk.Walk.is_sample.Goals as goal

pub returns : goal.returns
returns g c =
    record { ok = search rules; steps = costs_within c.args.self.now.plan.now c.args.meter.now c.is_part.new.meter (node_count (data_of c.args.tree.now)) c.args.self.now.plan.now.limit (omega (arith, c.if-nodes-limit.false, c.nodes.ensures, c.limit.ensures, c.limit.type_inv)) c.is_part.ensures.steps }
