use Rattle.std.proofs.Common.{◌∙◌}
use Rattle.clap.specs.Matches.{found_of}
use Rattle.clap.proofs.WalkLemmas.{one_text-rows}
use Rattle.crdx.proofs.arguments.reading.flag_of.Goals as goal

pub returns : goal.returns
returns c =
    let flag = one_text-rows (found_of c.args.matches.now) c.args.name.now in
    (λ is. c.get_flag.ensures.none (flag ∙ is), λ is. c.get_flag.ensures.other (flag ∙ is), λ is. c.get_flag.ensures.value (flag ∙ is))
