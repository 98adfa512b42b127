use Rattle.std.proofs.Common.{◌∙◌}
use Rattle.cel_parse.proofs.WordLemmas.{by_characters}
use Rattle.cel_parse.proofs.words.is_word.Goals as goal

pub returns : goal.returns
returns c = c.eq.ensures ∙ by_characters c.args.name.now c.args.word.now c.utf8.name c.requires
