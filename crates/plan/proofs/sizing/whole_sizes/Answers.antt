use Rattle.plan.proofs.SizeLemmas.{with_one}
use Rattle.plan.proofs.sizing.whole_sizes.Goals as goal

pub returns-then-nullable : goal.returns-then-nullable
returns-then-nullable g c =
    with_one c.args.limit c.args.nullable (g.Z.SizeSet.holds c.one-itself.result) (g.Z.SizeSet.holds c.args.inside) (g.Z.SizeSet.holds c.sums-sizes.result) (g.Z.SizeSet.holds c.union.result)
    c.if-nullable.true c.one-itself.ensures c.sums-sizes.ensures c.union.ensures
