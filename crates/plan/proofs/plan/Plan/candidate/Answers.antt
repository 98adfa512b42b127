use Rattle.plan.specs.Samples.Sites.{sites_of}
use Rattle.plan.specs.Internal.Values.{candidates_of}
use Rattle.plan.proofs.PlanLemmas.{entry_right, no_leaf}
use Rattle.plan.proofs.plan.Plan.candidate.Goals as goal

pub returns-in-Leaf-clause-candidate : goal.returns-in-Leaf-clause-candidate
returns-in-Leaf-clause-candidate g c =
    let r = entry_right g.Z.SizeSet.holds g.Z.SizeSet.BITS c.self.inside.schema c.self.inside.pools c.self.inside.arena.limit c.self.inside.arena.values c.self.inside.arena.entries.items c.self.inside.root c.args.self.now c.args.node c.entry.result.now c.self.invariant c.self.view_is c.requires.node c.entry.ensures in
    let leaf = rw c.in-Leaf.is at r.content in
    record { candidates = candidates_of c.self.inside.arena.values c.in-Leaf.leaf; are = leaf.candidates; is = c.candidate.ensures }

pub returns-in-Row-clause-candidate : goal.returns-in-Row-clause-candidate
returns-in-Row-clause-candidate g c =
    let r = entry_right g.Z.SizeSet.holds g.Z.SizeSet.BITS c.self.inside.schema c.self.inside.pools c.self.inside.arena.limit c.self.inside.arena.values c.self.inside.arena.entries.items c.self.inside.root c.args.self.now c.args.node c.entry.result.now c.self.invariant c.self.view_is c.requires.node c.entry.ensures in
    absurd (no_leaf g.Z.SizeSet.holds c.args.self.now.limit c.args.self.now.pools c.self.inside.arena.values (sites_of c.args.self.now.pools c.args.self.now.root) c.args.node c.entry.result.now r c.in-Row.is c.requires.leaf)
