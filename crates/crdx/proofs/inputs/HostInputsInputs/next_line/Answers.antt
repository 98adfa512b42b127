use Rattle.jtree.specs.Reads.{most_bytes}
use Rattle.crdx.proofs.LineAnswerLemmas.{long_line}
use Rattle.crdx.proofs.inputs.HostInputsInputs.next_line.Goals as goal

pub returns-in-Err-TooLong-clause-refused : goal.returns-in-Err-TooLong-clause-refused
returns-in-Err-TooLong-clause-refused g c = let long = long_line most_bytes in record { line = long.0; long = long.1; takes = λ lines _. tt }
