use Rattle.jtree.specs.View.{data_of}
use Rattle.schema.specs.Nodes.View.{node_of}
use Rattle.crdx.proofs.ObjectLemmas.{found_answer}
use Rattle.crdx.proofs.running.objects.validate.Goals as goal

pub returns-clause-answer : goal.returns-clause-answer
returns-clause-answer c = λ document is.
    let said = rw c.as_slice.ensures.value at c.in_ok-answer_with.ensures in
    found_answer (node_of c.args.node.now) document c.args.strict (data_of c.args.body.now) c.in_ok-found.found.items c.strictly_valid_is_pruned.ensures is c.in_ok-found.ensures c.in_ok-answer_with.field-0 said.none said.some
