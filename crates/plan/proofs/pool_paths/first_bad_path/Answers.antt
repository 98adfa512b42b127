use Rattle.plan.proofs.PoolPathLemmas.{first_of_all}
use Rattle.plan.proofs.pool_paths.first_bad_path.Goals as goal

pub returns : goal.returns
returns c =
    let root = c.args.schema.now in
    let P = c.args.pools.now in
    rw (c.or-2.ensures, c.or.ensures)
    (first_of_all root P c.first_bad_name.result c.first_bad_name-2.result c.first_bad_text.result (rw c.paths.ensures at c.first_bad_name.ensures) (rw c.fixed.ensures at c.first_bad_name-2.ensures) (rw c.present.ensures at c.first_bad_text.ensures))
