use Rattle.std.proofs.Common.{◌∙◌, ap, length, ◌==◌, rules}
use Rattle.std.proofs.lemmas.List.{nil_from_length}
use Rattle.jtree.specs.View.{data_of}
use Rattle.schema.specs.Nodes.View.{node_of}
use Rattle.stored.proofs.FaultlessLemmas.{none_is_valid, valid_has_none}
use Rattle.stored.proofs.defaults.is_faultless.Goals as goal

pub returns : goal.returns
returns c =
    let N = node_of c.args.node.now in
    let v = data_of c.args.tree.now in
    let found = c.in_ok-faults.field-0.items in (
      λ t. none_is_valid N v found c.in_ok-faults.ensures (search (rules, nil_from_length)),
      λ valid. c.is_empty.ensures ∙ ap (λ xs. length xs == 0) (c.as_slice.ensures.value ∙ valid_has_none N v found c.in_ok-faults.ensures valid),
    )
