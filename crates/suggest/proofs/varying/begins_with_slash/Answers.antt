use Rattle.suggest.proofs.VaryLemmas.{slash_first}
use Rattle.suggest.proofs.varying.begins_with_slash.Goals as goal

pub returns-in-len1-up : goal.returns-in-len1-up
returns-in-len1-up c = slash_first c.args.text.now c.in-len1-up.len_at_least
