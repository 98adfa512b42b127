use Rattle.std.proofs.Common.{◌∙◌, codes}
use Rattle.clap.specs.Matches.{found_of}
use Rattle.clap.proofs.WalkLemmas.{first_value-rows}
use Rattle.crdx.proofs.arguments.reading.plan_arguments.Goals as goal

pub returns : goal.returns
returns c =
    let f = found_of c.args.matches.now in
    (c.common_arguments.ensures, c.pools_of.ensures, c.number_of.ensures.number, c.get_str.ensures ∙ first_value-rows f (codes "name"))
