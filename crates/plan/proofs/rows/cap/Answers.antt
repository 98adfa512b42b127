use Rattle.std.proofs.Common.{◌≡◌, arith}
use Rattle.std.specs.Prelude.{suc, min, option_map, unwrap_or}
use Rattle.plan.proofs.rows.cap.Goals as goal
use Rattle.plan.proofs.rows.cap.Goals.{in-Some, in-None}

pub returns : goal.returns
returns c =
    let past : c.match-bounds.past ≡ min (unwrap_or (option_map suc c.args.bounds.most) 0) 18446744073709551615 = elim c.match-bounds.branch [
      | in-Some w ↦ rw w.in-Some.is (omega (arith, w.past-is, w.saturating_add-past.ensures))
      | in-None w ↦ rw w.in-None.is (omega (arith, w.past-is))
    ] in
    omega (arith, past, c.max.ensures, c.unwrap_or.ensures)
