use Rattle.std.proofs.Common.{false, ap, map, ◌++◌, ◌∙◌, string_bytes}
use Rattle.jtree.specs.View.{data_of}
use Rattle.schema.specs.Nodes.View.{node_of}
use Rattle.stored.specs.Objects.AllFaults.{reported}
use Rattle.stored.specs.Internal.FailuresByLevel.{found, reported_at}
use Rattle.stored.proofs.FaultLemmas.{all_failures}
use Rattle.stored.proofs.all_faults.all_faults.Goals as goal

pub returns : goal.returns
returns c =
    let N = node_of c.args.node.now in
    let v = data_of c.args.tree.now in
    let fs = found c.args.strict false N v in (
      fs,
      all_failures c.args.strict N v c.reveal_invariant.ensures c.reveal_invariant-2.ensures,
      ap (λ p. p.reported) c.in_ok-find.ensures ∙ (ap (λ xs. map reported xs ++ map (reported_at (string_bytes c.new.result)) fs) c.new-2.ensures.items ∙ ap (λ at. map (reported_at at) fs) c.new.ensures.bytes),
    )
