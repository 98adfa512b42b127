use Rattle.jtree.specs.View.{data_of}
use Rattle.crdx.proofs.ObjectLemmas.{written_answer}
use Rattle.crdx.proofs.running.as_written.WrittenJudge.validate.Goals as goal

pub returns-clause-answer : goal.returns-clause-answer
returns-clause-answer c =
    let said = rw c.as_slice.ensures.value at c.in_ok-answer_with.ensures in
    written_answer (data_of c.args.self.now.schema.now) (data_of c.args.document.now) c.in_ok-found.found.items c.in_ok-found.ensures c.in_ok-answer_with.field-0 said.none said.some
