use Rattle.std.proofs.Common.{rules}
use Rattle.cel_parse.proofs.TextLemmas.{one_more}
use Rattle.cel_parse.proofs.texts.push.Goals as goal

pub returns : goal.returns
returns c = one_more c.args.out.now c.push.new.self c.args.c (search rules) (search rules)
