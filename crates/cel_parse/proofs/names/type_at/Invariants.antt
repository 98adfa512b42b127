use Rattle.std.proofs.Common.{◌≡◌, ◌≤◌, length, option_map}
use Rattle.cel_read.specs.View.{text_of, token_lexemes}
use Rattle.cel_parse.specs.Internal.Reading.{with_beginning, leading, type_at}
use Rattle.cel_parse.proofs.names.type_at.Given as goal

abbrev pub invariant-parts : goal.invariant-parts
invariant-parts l =
    record {
      shorter : length l.rest ≤ length l.tokens;
      same : option_map (with_beginning (text_of l.out)) (type_at (token_lexemes l.rest)) ≡ option_map (with_beginning (leading l.dotted)) (type_at (token_lexemes l.tokens));
    }

abbrev pub decreases-parts : goal.decreases-parts
decreases-parts l = length l.rest
