use Rattle.std.proofs.Common.{rules, ◌≡◌, ◌+◌, ap, sym, ◌∙◌}
use Rattle.jtree.specs.Nodes.{node_count, members_count}
use Rattle.jtree.specs.View.{data_of, members_of}
use Rattle.enumerate.proofs.walks.Costs.{costs_row}
use Rattle.enumerate.proofs.walk.Walk.+part.Goals as goal

pub returns-in-Object : goal.is_unused_row-returns-in-Object
returns-in-Object g t c =
    record {
      ok = search rules;
      steps = let m = members_count (members_of c.as_slice.result.now) in
          let members : c.in-Object.object ≡ members_of c.as_slice.result.now = sym c.object.view_is ∙ ap members_of (sym c.as_slice.ensures.value) in
          let count : node_count (data_of c.args.tree.now) ≡ 1 + m = ap (λ t. node_count (data_of t)) c.in-Object.is ∙ ap (λ ms. 1 + members_count ms) members in
          costs_row c.args.self.now.plan.now c.args.node c.args.meter.now c.make_unused_row.new.meter m (node_count (data_of c.args.tree.now)) c.requires.node.node c.requires.node.sort count c.make_unused_row.ensures.steps;
    }
