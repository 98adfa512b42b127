use Rattle.std.proofs.Common.{◌≡◌, ◌+◌, length}
use Rattle.cel_read.specs.View.{token_lexemes}
use Rattle.cel_parse.specs.Internal.Reading.{nots}
use Rattle.cel_parse.proofs.SignLemmas.{plus}
use Rattle.cel_parse.proofs.signs.nots.Given as goal

abbrev pub invariant-signs : goal.invariant-signs
invariant-signs l =
    record {
      total : l.count + length l.rest ≡ length l.tokens;
      same : plus l.count (nots (token_lexemes l.rest)) ≡ nots (token_lexemes l.tokens);
    }

abbrev pub decreases-signs : goal.decreases-signs
decreases-signs l = length l.rest
