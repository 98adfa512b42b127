use Rattle.std.proofs.Common.{length, chars}
use Rattle.cel_read.specs.Tokens.{Reads}
use Rattle.cel_read.specs.View.{token_lexemes}
use Rattle.cel_read.proofs.lexing.tokens.Given as goal

abbrev pub invariant-lexemes : goal.invariant-lexemes
invariant-lexemes l = Reads (chars l.text) (token_lexemes l.tokens.items) l.rest

abbrev pub decreases-lexemes : goal.decreases-lexemes
decreases-lexemes l = length l.rest
