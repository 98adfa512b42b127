use Rattle.std.proofs.Common.{◌∙◌, codes}
use Rattle.clap.specs.Matches.{found_of}
use Rattle.clap.proofs.WalkLemmas.{first_value-rows}
use Rattle.crdx.proofs.arguments.reading.sample_arguments.Goals as goal

pub returns : goal.returns
returns c =
    let f = found_of c.args.matches.now in
    (c.plan_arguments.ensures, c.get_str.ensures ∙ first_value-rows f (codes "after"), c.number_of.ensures.number, c.flag_of.ensures)
