use Rattle.std.proofs.Common.{arith}
use Rattle.schema.proofs.reasons.keys.+has_repeated.Goals as goal

pub has_repeated-requires : goal.has_repeated-requires
has_repeated-requires t c = (omega (arith, c.in-Text.len_at_least, c.decreases), tt)

pub has_repeated-requires-in-len1-up : goal.has_repeated-requires-in-len1-up
has_repeated-requires-in-len1-up t c = (omega (arith, c.in-len1-up.len_at_least, c.decreases), tt)
