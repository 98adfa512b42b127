use Rattle.std.proofs.Common.{◌∙◌, ap, sym, codes}
use Rattle.std.specs.Prelude.{not, option_map}
use Rattle.clap.specs.Matches.{found_of}
use Rattle.clap.proofs.WalkLemmas.{first_value-rows}
use Rattle.crdx.specs.Program.CommandLine.{is_other_profile}
use Rattle.crdx.proofs.arguments.reading.names_other_profile.Goals as goal

pub returns-in-Some : goal.returns-in-Some
returns-in-Some c =
    let word = sym (c.get_str.ensures ∙ first_value-rows (found_of c.args.found.now) (codes "profile")) ∙ ap (option_map (λ s. s.now)) c.in-Some.is in
    ap not c.is_profile.ensures ∙ sym (ap is_other_profile word)

pub returns-in-None : goal.returns-in-None
returns-in-None c =
    let none = sym (c.get_str.ensures ∙ first_value-rows (found_of c.args.found.now) (codes "profile")) ∙ ap (option_map (λ s. s.now)) c.in-None.is in
    sym (ap is_other_profile none)
