use Rattle.crdx.proofs.running.line_answers.answer_by.Goals as goal

pub returns-in-Node-clause-answer : goal.returns-in-Node-clause-answer
returns-in-Node-clause-answer c = rw c.in-Node.is c.answer_of.ensures.answer

pub returns-clause-answer : goal.returns-clause-answer
returns-clause-answer c = rw c.in-AsWritten.is c.in_ok-validate-in-AsWritten.ensures.answer
