use Rattle.std.proofs.Common.{length}
use Rattle.cel_read.specs.Internal.Reading.{whole_body}
use Rattle.cel_read.specs.Internal.Found.{quoting_of}
use Rattle.cel_read.proofs.BodyLemmas.{IsAhead}
use Rattle.cel_read.proofs.strings.read_body.Given as goal

abbrev pub invariant-parts : goal.invariant-parts
invariant-parts l = IsAhead (quoting_of l.quoting) (whole_body (quoting_of l.quoting) l.text) l.values.items l.rest

abbrev pub decreases-parts : goal.decreases-parts
decreases-parts l = length l.rest
