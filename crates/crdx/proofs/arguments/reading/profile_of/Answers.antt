use Rattle.std.proofs.Common.{◌∙◌, ap, sym, codes}
use Rattle.std.specs.Prelude.{option_map}
use Rattle.clap.specs.Matches.{found_of}
use Rattle.clap.proofs.WalkLemmas.{first_value-rows}
use Rattle.crdx.specs.Program.CommandLine.{profile_by}
use Rattle.crdx.proofs.arguments.reading.profile_of.Goals as goal

pub returns-in-Some : goal.returns-in-Some
returns-in-Some c =
    let word = sym (c.get_str.ensures ∙ first_value-rows (found_of c.args.matches.now) (codes "profile")) ∙ ap (option_map (λ s. s.now)) c.in-Some.is in
    c.named.ensures ∙ sym (ap profile_by word)

pub returns-in-None : goal.returns-in-None
returns-in-None c =
    let none = sym (c.get_str.ensures ∙ first_value-rows (found_of c.args.matches.now) (codes "profile")) ∙ ap (option_map (λ s. s.now)) c.in-None.is in
    sym (ap profile_by none)
