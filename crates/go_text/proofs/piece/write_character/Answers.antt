use Rattle.std.proofs.Common.{rules}
use Rattle.go_text.proofs.WritingLemmas.{one_more}
use Rattle.go_text.proofs.piece.write_character.Goals as goal

pub returns : goal.returns
returns c = one_more c.args.out.now c.push.new.self c.args.c (search rules) (search rules)
