use Rattle.std.proofs.Common.{sym, rules}
use Rattle.plan.specs.Samples.Sites.{sites_of}
use Rattle.plan.proofs.PlanLemmas.{entry_right, leaf_sort, list_sort}
use Rattle.plan.proofs.plan.Plan.sort.Goals as goal

pub returns-in-Row : goal.returns-in-Row
returns-in-Row g c = search rules

pub returns-in-Leaf : goal.returns-in-Leaf
returns-in-Leaf g c =
    let r = entry_right g.Z.SizeSet.holds g.Z.SizeSet.BITS c.self.inside.schema c.self.inside.pools c.self.inside.arena.limit c.self.inside.arena.values c.self.inside.arena.entries.items c.self.inside.root c.args.self.now c.args.node c.entry.result.now c.self.invariant c.self.view_is c.requires c.entry.ensures in
    sym (leaf_sort g.Z.SizeSet.holds c.args.self.now.limit c.args.self.now.pools c.self.inside.arena.values (sites_of c.args.self.now.pools c.args.self.now.root) c.args.node c.entry.result.now c.in-Leaf.field-0 r c.in-Leaf.is)

pub returns-in-List : goal.returns-in-List
returns-in-List g c =
    let r = entry_right g.Z.SizeSet.holds g.Z.SizeSet.BITS c.self.inside.schema c.self.inside.pools c.self.inside.arena.limit c.self.inside.arena.values c.self.inside.arena.entries.items c.self.inside.root c.args.self.now c.args.node c.entry.result.now c.self.invariant c.self.view_is c.requires c.entry.ensures in
    sym (list_sort g.Z.SizeSet.holds c.args.self.now.limit c.args.self.now.pools c.self.inside.arena.values (sites_of c.args.self.now.pools c.args.self.now.root) c.args.node c.entry.result.now c.in-List.field-0 r c.in-List.is)
