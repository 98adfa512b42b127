use Rattle.std.proofs.Common.{rules}
use Rattle.cel_parse.proofs.TextLemmas.{text_more}
use Rattle.cel_parse.proofs.texts.push_all.Goals as goal

pub returns : goal.returns
returns c = text_more c.args.out.now c.push_str.new.self c.args.text.now (search rules)
