use Rattle.std.proofs.Common.{◌∙◌, refl, codes}
use Rattle.clap.specs.Matches.{found_of}
use Rattle.clap.proofs.WalkLemmas.{one_text-rows}
use Rattle.crdx.proofs.CommandLineLemmas.{value_text}
use Rattle.crdx.proofs.arguments.reading.common_arguments.Goals as goal

pub returns : goal.returns
returns c =
    let f = found_of c.args.matches.now in
    let large = one_text-rows f (codes "large") in
    let why = one_text-rows f (codes "why") in (
      c.crd_of.ensures,
      value_text f (codes "VERSION") c.get_str.result c.unwrap_or.result _ c.get_str.ensures c.unwrap_or.ensures refl,
      (λ is. c.get_flag.ensures.none (large ∙ is), λ is. c.get_flag.ensures.other (large ∙ is), λ is. c.get_flag.ensures.value (large ∙ is)),
      (λ is. c.get_flag-2.ensures.none (why ∙ is), λ is. c.get_flag-2.ensures.other (why ∙ is), λ is. c.get_flag-2.ensures.value (why ∙ is)),
      c.profile_of.ensures,
    )
