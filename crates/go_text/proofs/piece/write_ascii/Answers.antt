use Rattle.std.proofs.Common.{rules}
use Rattle.go_text.proofs.WritingLemmas.{ascii_more}
use Rattle.go_text.proofs.piece.write_ascii.Goals as goal

pub returns : goal.returns
returns c = ascii_more c.args.out.now c.push_str.new.self c.args.fixed.now.text.now c.args.fixed.now.ascii (search rules)
