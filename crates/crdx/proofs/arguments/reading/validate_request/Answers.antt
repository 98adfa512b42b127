use Rattle.std.proofs.Common.{◌∙◌, codes}
use Rattle.clap.specs.Matches.{found_of}
use Rattle.clap.proofs.WalkLemmas.{one_text-rows}
use Rattle.crdx.proofs.arguments.reading.validate_request.Goals as goal

pub returns-clause-options : goal.returns-clause-options
returns-clause-options c =
    let strict = one_text-rows (found_of c.args.found.now) (codes "strict") in
    (λ is. c.get_flag.ensures.none (strict ∙ is), λ is. c.get_flag.ensures.other (strict ∙ is), λ is. c.get_flag.ensures.value (strict ∙ is))
