use Rattle.std.proofs.Common.{arith}
use Rattle.schema.proofs.rules.lists.+are_keys.Goals as goal

pub are_keys-requires : goal.are_keys-requires
are_keys-requires t c = (omega (arith, c.in-Text.len_at_least, c.decreases), tt)

pub are_keys-requires-in-len1-up : goal.are_keys-requires-in-len1-up
are_keys-requires-in-len1-up t c = (omega (arith, c.in-len1-up.len_at_least, c.decreases), tt)
