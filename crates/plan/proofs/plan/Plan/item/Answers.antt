use Rattle.std.proofs.Common.{rules}
use Rattle.plan.specs.Samples.Sites.{sites_of}
use Rattle.plan.proofs.PlanLemmas.{entry_right, none_map}
use Rattle.plan.proofs.plan.Plan.item.Goals as goal

pub returns-in-List-clause-none : goal.returns-in-List-clause-none
returns-in-List-clause-none g c =
    let holds = g.Z.SizeSet.holds in
    let r = entry_right holds g.Z.SizeSet.BITS c.self.inside.schema c.self.inside.pools c.self.inside.arena.limit c.self.inside.arena.values c.self.inside.arena.entries.items c.self.inside.root c.args.self.now c.args.node c.entry.result.now c.self.invariant c.self.view_is c.requires.node c.entry.ensures in
    let list = rw c.in-List.is at r.content in
    none_map c.item_at.result _ _ c.item_at.ensures.none (λ f m. f c.args.self.now.pools c.args.self.now.limit (sites_of c.args.self.now.pools c.args.self.now.root) c.args.node m list)

pub returns-in-List-clause-goes_on : goal.returns-in-List-clause-goes_on
returns-in-List-clause-goes_on g c = search rules
