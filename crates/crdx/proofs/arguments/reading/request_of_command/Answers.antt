use Rattle.std.proofs.Common.{sym, subst}
use Rattle.clap.specs.Matches.{found_of}
use Rattle.clap.specs.Walk.{rows_of}
use Rattle.crdx.specs.Program.CommandLine.{IsAsked}
use Rattle.crdx.proofs.CommandLineLemmas.{met_as, none_met}
use Rattle.crdx.proofs.arguments.reading.request_of_command.Goals as goal

pub returns-in-Some : goal.returns-in-Some
returns-in-Some c =
    let named = met_as _ c.in-Some.name.now (rows_of (found_of c.in-Some.found.now)) (sym c.in-Some.ensures.name) (sym c.in-Some.ensures.rows) in
    subst (λ n. IsAsked n c.request_of_found.result) (sym named) c.request_of_found.ensures

pub returns-in-None : goal.returns-in-None
returns-in-None c = (none_met _ c.usage_error.result (sym c.in-None.ensures.name) c.usage_error.ensures, λ _. c.usage_error.ensures)
