use Rattle.std.proofs.Common.{◌++◌, ◌∙◌, ap, map, string_bytes}
use Rattle.jtree.specs.View.{data_of}
use Rattle.definition.specs.Faults.{reported}
use Rattle.definition.specs.Internal.ByLevel.{found, reported_at}
use Rattle.definition.proofs.FaultLemmas.{all_breaks}
use Rattle.definition.proofs.finding.faults_from.Goals as goal

pub returns : goal.returns
returns c =
    let d = data_of c.args.tree.now in
    let fs = found c.args.part d in (
      fs,
      all_breaks c.args.part d c.reveal_invariant.ensures,
      ap (λ p. p.reported) c.in_ok-add_part.ensures
          ∙ (ap (λ xs. map reported xs ++ map (reported_at (string_bytes c.new.result)) fs) c.new-2.ensures.items ∙ ap (λ at. map (reported_at at) fs) c.new.ensures.bytes),
    )
