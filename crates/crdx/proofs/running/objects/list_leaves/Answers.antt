use Rattle.std.proofs.Common.{map, ap, sym, ◌∙◌}
use Rattle.std.proofs.lemmas.List.Folds.{flat_map-map}
use Rattle.std.proofs.lemmas.Result.{err_from_is_err_and}
use Rattle.jtree.specs.View.{data_of}
use Rattle.schema.specs.Nodes.View.{node_of}
use Rattle.stored.specs.Objects.Leaves.{elements_of}
use Rattle.crdx.specs.Program.ObjectAnswer.{leaf_line, leaf_lines}
use Rattle.crdx.proofs.ObjectLemmas.{owned_answer, leaves_cause}
use Rattle.crdx.proofs.running.objects.list_leaves.Goals as goal

pub returns-in_err-found-clause-cause : goal.returns-in_err-found-clause-cause
returns-in_err-found-clause-cause c =
    let p = err_from_is_err_and c.from_residual.result c.from_residual.ensures.1 in
    rw (p.1, p.2) (λ document is. leaves_cause (node_of c.args.node.now) document (data_of c.args.body.now) c.in_err-found.field-0.0 is c.in_err-found.ensures.not_stored)

pub returns-clause-answer : goal.returns-clause-answer
returns-clause-answer c = λ document is.
    owned_answer (node_of c.args.node.now) document (data_of c.args.body.now) c.in_ok-found.found.items _ is c.in_ok-found.ensures.stored c.in_ok-found.ensures.leaves
    (c.in_ok-all_lines.ensures ∙ (sym (flat_map-map leaf_line elements_of _) ∙ ap (λ ls. leaf_lines (map elements_of ls)) c.as_slice.ensures.value))
