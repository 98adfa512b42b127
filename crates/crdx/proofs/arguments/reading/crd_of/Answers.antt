use Rattle.std.proofs.Common.{◌∙◌, ap, refl, codes}
use Rattle.clap.specs.Matches.{found_of}
use Rattle.crdx.specs.Program.CommandLine.{input_of}
use Rattle.crdx.proofs.CommandLineLemmas.{value_text}
use Rattle.crdx.proofs.arguments.reading.crd_of.Goals as goal

pub returns : goal.returns
returns c = c.input_named.ensures ∙ ap input_of (value_text (found_of c.args.matches.now) (codes "CRD") c.get_str.result c.unwrap_or.result _ c.get_str.ensures c.unwrap_or.ensures refl)
