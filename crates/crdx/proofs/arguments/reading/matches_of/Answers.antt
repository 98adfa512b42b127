use Rattle.std.proofs.Common.{◌∙◌, ap, subst, map, string_bytes}
use Rattle.std.proofs.lemmas.Result.{IfOk-weaker}
use Rattle.clap.specs.Faults.{fault_of, is_simple_and_free}
use Rattle.clap.specs.Kinds.{FailsBy}
use Rattle.clap.specs.Simple.{App, is_simple, subcommand_of}
use Rattle.crdx.proofs.CommandLineLemmas.{crdx_is_simple, crdx_is_free, entered_is, faults_are}
use Rattle.crdx.proofs.arguments.reading.matches_of.Goals as goal

pub returns-clause-command : goal.returns-clause-command
returns-clause-command c =
    let arguments = map string_bytes c.args.arguments.now in
    let is = c.in_ok-command.ensures in
    let parse = c.try_get_matches_from in
    IfOk-weaker parse.result _ _ (λ m h. (h (ap is_simple is ∙ crdx_is_simple)).1 ∙ (ap (λ (a : App). subcommand_of a arguments) is ∙ entered_is arguments)) parse.ensures.matches

pub returns-clause-kinds : goal.returns-clause-kinds
returns-clause-kinds c =
    let arguments = map string_bytes c.args.arguments.now in
    let is = c.in_ok-command.ensures in
    let parse = c.try_get_matches_from in
    subst (λ kinds. FailsBy kinds parse.result) (ap (λ (a : App). fault_of a arguments) is ∙ faults_are arguments) (parse.ensures.kinds (ap is_simple_and_free is ∙ crdx_is_free))
