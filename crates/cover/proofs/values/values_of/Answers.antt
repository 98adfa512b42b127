use Rattle.std.proofs.Common.{◌≡◌, Some, All, map}
use Rattle.std.proofs.lemmas.Result.{IfOk-weaker}
use Rattle.jtree.specs.View.{data_of}
use Rattle.schema.specs.Nodes.View.{node_of}
use Rattle.explain.specs.Paths.FieldPath.{FieldPath}
use Rattle.explain.specs.Paths.PathText.{path_text}
use Rattle.cover.specs.Wanted.{AreValuesAt, AreValuesOf}
use Rattle.cover.specs.Internal.Narrowed.{MayBeWanted}
use Rattle.cover.proofs.ValueLemmas.{values_wanted_of, not_declared}
use Rattle.cover.proofs.values.values_of.Goals as goal

pub returns-in-Ok-clause-values : goal.returns-in-Ok-clause-values
returns-in-Ok-clause-values c =
    let N = node_of c.in-Ok.node.now in
    let P = c.args.pools.now in
    let there = c.in-Ok.ensures.node in
    IfOk-weaker c.values_at.result (λ vs. AreValuesAt c.args.values P c.args.limit c.args.path.now N (map (λ v. data_of v) vs.items)) (λ vs. AreValuesOf c.args.values (record { root = c.args.schema.now; pools = P; limit = c.args.limit }) c.args.path.now (map (λ v. data_of v) vs.items))
    (λ vs h. (there.0, there.1, (N, there.2.1, h))) c.values_at.ensures

pub returns-in-Ok-clause-wanted : goal.returns-in-Ok-clause-wanted
returns-in-Ok-clause-wanted c =
    let N = node_of c.in-Ok.node.now in
    let P = c.args.pools.now in
    let there = c.in-Ok.ensures.node in
    IfOk-weaker c.values_at.result (λ vs. AreValuesAt c.args.values P c.args.limit c.args.path.now N (map (λ v. data_of v) vs.items))
    (λ vs. (p : FieldPath) → path_text p ≡ c.args.path.now → All (λ v. MayBeWanted c.args.schema.now P (Some (data_of v)) p) vs.items)
    (λ vs h. values_wanted_of c.paths_have_one_text.ensures c.items_are_distinct.ensures c.args.schema.now c.root.ensures.schema c.args.values P c.args.limit c.args.path.now there.0 N there.1 there.2.1 vs.items h) c.values_at.ensures

pub returns-in-Err-clause-values : goal.returns-in-Err-clause-values
returns-in-Err-clause-values c = absurd (not_declared c.paths_have_one_text.ensures c.args.schema.now c.args.path.now c.in-Err.field-0 c.requires c.in-Err.ensures.fault)
