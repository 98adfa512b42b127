use Rattle.std.proofs.Common.{arith}
use Rattle.enumerate.proofs.sizes.least_split.Goals as goal

pub loop-size-init : goal.loop-size-init
loop-size-init g c = λ n low below split. omega (arith, low, below)
