use Rattle.std.proofs.lemmas.Result.{IfOk-weaker}
use Rattle.jtree.specs.View.{data_of}
use Rattle.schema.specs.Nodes.View.{node_of}
use Rattle.crdx.proofs.ObjectLemmas.{pruned_answer, completed_answer}
use Rattle.crdx.proofs.running.objects.answer_of.Goals as goal

pub returns-in-Prune-clause-answer : goal.returns-in-Prune-clause-answer
returns-in-Prune-clause-answer c = rw (c.in-Prune.is) (IfOk-weaker c.print.result _ _
    (λ a said. pruned_answer (node_of c.args.node.now) (data_of c.args.document.now) (data_of c.split-envelope.new.tree) (data_of c.prune.new.tree) c.split-envelope.result a
    c.split-envelope.ensures.body c.split-envelope.ensures.parts c.prune.ensures said) c.print.ensures.answer)

pub returns-in-Ok-clause-answer : goal.returns-in-Ok-clause-answer
returns-in-Ok-clause-answer c = rw (c.in-Default.is) (IfOk-weaker c.print-in-Ok.result _ _
    (λ a said. completed_answer (node_of c.args.node.now) (data_of c.args.document.now) (data_of c.split-envelope.new.tree) (data_of c.in-Ok.body) c.split-envelope.result a
    c.split-envelope.ensures.body c.split-envelope.ensures.parts c.in-Ok.ensures.completed said) c.print-in-Ok.ensures.answer)
