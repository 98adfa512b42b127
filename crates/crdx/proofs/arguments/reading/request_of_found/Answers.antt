use Rattle.std.proofs.Common.{sym, ◌∙◌}
use Rattle.clap.specs.Matches.{found_of}
use Rattle.clap.specs.Walk.{rows_of}
use Rattle.crdx.proofs.CommandLineLemmas.{refused_profile, known_profile}
use Rattle.crdx.proofs.arguments.reading.request_of_found.Goals as goal

pub returns-then-names_other_profile : goal.returns-then-names_other_profile
returns-then-names_other_profile c =
    refused_profile c.args.name.now (rows_of (found_of c.args.found.now)) c.refuse.result c.refuse.ensures (sym c.names_other_profile.ensures ∙ c.if-names_other_profile.true)

pub returns : goal.returns
returns c =
    known_profile c.args.name.now (rows_of (found_of c.args.found.now)) c.request_of_named.result c.request_of_named.ensures (sym c.names_other_profile.ensures ∙ c.if-names_other_profile.false)
