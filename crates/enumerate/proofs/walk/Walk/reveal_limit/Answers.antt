use Rattle.std.proofs.Common.{arith}
use Rattle.enumerate.proofs.walk.Walk.reveal_limit.Goals as goal

pub returns : goal.returns
returns g c = omega (arith, c.limit.ensures, c.limit.type_inv)
