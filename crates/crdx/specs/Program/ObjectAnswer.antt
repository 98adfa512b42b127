-- What `validate`, `prune`, `default` and `leaves` answer of a document (this project's own words).
use Rattle.std.specs.Prelude.{◌≢◌, ◌/◌, ◌%◌, ℕ, List, [], ◌++◌, true, false, None, map, flat_map, codes, decimal}
use Rattle.jtree.specs.Data.{Data, IsTree, text, list}
use Rattle.jtree.specs.Text.{compact}
use Rattle.judge.specs.Asked.{root}
use Rattle.judge.specs.Faults as judged
use Rattle.judge.specs.Keywords.{number}
use Rattle.schema.specs.Nodes.Node.{Node}
use Rattle.stored.specs.Objects.Fault.{HasFault, IsValid}
use Rattle.stored.specs.Objects.AllFaults.{Failure, AreFailures, Reported, reported_of}
use Rattle.stored.specs.Objects.Becomes.{IsPruned, IsCompleted, IsStored}
use Rattle.stored.specs.Objects.StrictFaults.{HasStrictFault}
use Rattle.stored.specs.Objects.Leaves.{AreLeaves}
use Rattle.crdx.specs.Output.Line.{line}
use Rattle.crdx.specs.Program.Envelope.{body_of, envelope_in, IsJoined}
use Rattle.crdx.specs.Program.Phrases.{fault_phrase_of}
use Rattle.crdx.specs.Program.Standard.{Standard, by_node, as_written, fails_as_written}
use Rattle.crdx.specs.Program.TextList.{text_items}
use Rattle.crdx.specs.declared.arguments.request.ObjectCommand.{ObjectCommand}
use Rattle.crdx.specs.declared.arguments.request.ObjectCommand.TheVariants.{Validate, Prune, Default, Leaves}

-- the line of a fault: its number in two digits, the path of the place as a JSON text, and what is wrong there
abbrev pub fault_line : Reported → List ℕ
fault_line t = codes "F" ++ (decimal (t.number / 10) ++ (decimal (t.number % 10) ++ (codes " " ++ (compact (text t.path) ++ (codes " " ++ (fault_phrase_of t.number ++ codes "\n"))))))

abbrev pub fault_lines : List Reported → List ℕ
fault_lines ts = flat_map fault_line ts

-- the line of a leaf: the JSON list of its elements
abbrev pub leaf_line : List (List ℕ) → List ℕ
leaf_line elements = line None (list (text_items elements))

abbrev pub leaf_lines : List (List (List ℕ)) → List ℕ
leaf_lines leaves = flat_map leaf_line leaves

-- by the node of its body: the exit status, and the whole text on standard output
pub data IsObjectAnswer (N : Node) (document : Data) : ObjectCommand → ℕ → List ℕ → Type 0 where
  valid : IsValid N (body_of document) → IsObjectAnswer N document (Validate false) 0 (codes "valid\n")
  faulty : (fs : List Failure) → AreFailures (HasFault N (body_of document)) fs → fs ≢ [] → IsObjectAnswer N document (Validate false) 1 (fault_lines (map reported_of fs))
  -- with `--strict`
  strictly_valid : IsValid N (body_of document) → IsPruned N (body_of document) (body_of document) → IsObjectAnswer N document (Validate true) 0 (codes "valid\n")
  strictly_faulty : (fs : List Failure) → AreFailures (HasStrictFault N (body_of document)) fs → fs ≢ [] → IsObjectAnswer N document (Validate true) 1 (fault_lines (map reported_of fs))
  pruned : (body whole : Data) → IsPruned N (body_of document) body → IsTree body → IsJoined body (envelope_in document) whole → IsObjectAnswer N document Prune 0 (line None whole)
  completed : (body whole : Data) → IsCompleted N (body_of document) body → IsTree body → IsJoined body (envelope_in document) whole → IsObjectAnswer N document Default 0 (line None whole)
  owned : (leaves : List (List (List ℕ))) → IsStored N (body_of document) → AreLeaves N (body_of document) leaves → IsObjectAnswer N document Leaves 0 (leaf_lines leaves)
  -- the fault is on standard error
  not_stored : (IsStored N (body_of document) → ⊥) → IsObjectAnswer N document Leaves 1 []

-- a fault by the schema as it is written, by its number
abbrev pub as_printed : judged.Reported → Reported
as_printed f = record { path = f.path; number = number f.test }

-- `validate` by the schema as it is written, which the whole document is judged by
pub data IsWrittenAnswer (raw document : Data) : ℕ → List ℕ → Type 0 where
  unfailing : judged.IsValid fails_as_written raw document → IsWrittenAnswer raw document 0 (codes "valid\n")
  failing : (fs : List judged.Failure) → judged.AreFailures (judged.IsFault fails_as_written (root raw document)) fs → fs ≢ [] → IsWrittenAnswer raw document 1 (fault_lines (map as_printed (map judged.reported_of fs)))

abbrev pub IsAnswerBy : Standard → Data → ObjectCommand → ℕ → List ℕ → Type 0
IsAnswerBy (by_node N) document command = IsObjectAnswer N document command
IsAnswerBy (as_written raw) document command = IsWrittenAnswer raw document
