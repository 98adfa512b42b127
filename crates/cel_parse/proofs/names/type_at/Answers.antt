use Rattle.std.proofs.Common.{◌∙◌, arith}
use Rattle.cel_read.specs.View.{text_of, token_lexemes}
use Rattle.cel_parse.proofs.NameLemmas.{part_more}
use Rattle.cel_parse.proofs.names.type_at.Goals as goal

pub parts-preserved : goal.parts-preserved
parts-preserved c =
    record {
      shorter = omega (arith, c.in-Before.ensures.shorter, c.parts.invariant.shorter);
      same = part_more (text_of c.parts.out) (text_of c.push_part.new.out) (text_of c.in-Before.name.now) (token_lexemes c.parts.rest.now) (token_lexemes c.in-Before.after.now)
          c.in_ok-push_part-in-Before.ensures c.in-Before.ensures.words ∙ c.parts.invariant.same;
    }
