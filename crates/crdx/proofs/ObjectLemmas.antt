-- What faults, pruning and completing say of the answer about a document.
use Rattle.std.proofs.Common.{◌≡◌, ◌≢◌, ◌∙◌, ap, ℕ, refl, List, [], ◌∷◌, Bool, None, length, map, true, false, sym, subst, string_bytes}
use Rattle.std.specs.Prelude.{◌↔◌, codes}
use Rattle.std.specs.List.{flat_map}
use Rattle.std.proofs.lemmas.List.Folds.{flat_map-map}
use Rattle.judge.specs.Faults as judged
use Rattle.judge.specs.declared.finding.Fault as judged_code
use Rattle.jtree.specs.Data.{Data, IsTree, Members}
use Rattle.jtree.specs.Internal.Rising.{contained}
use Rattle.jtree.specs.Path.{Path}
use Rattle.schema.specs.Nodes.Node.{Node}
use Rattle.stored.specs.Objects.Fault.{Test, HasFault, IsValid}
use Rattle.stored.specs.Objects.AllFaults.{AreFailures, AreReported, reported}
use Rattle.stored.specs.Objects.Becomes.{IsPruned, IsCompleted, IsStored}
use Rattle.stored.specs.Objects.StrictFaults.{HasStrictFault, IsStrictlyValid}
use Rattle.stored.specs.Objects.Leaves.{AreLeaves, elements_of}
use Rattle.stored.specs.declared.fault.LFault.{LFault}
use Rattle.stored.specs.declared.fault.LFault.TheVariants as l
use Rattle.stored.specs.declared.leaf.Leaf.{Leaf}
use Rattle.stored.specs.declared.fault.Fault.{Fault}
use Rattle.crdx.specs.Output.Line.{line}
use Rattle.crdx.specs.Program.Envelope.{body_of, envelope_in, IsJoined}
use Rattle.crdx.specs.Program.ObjectAnswer.{IsObjectAnswer, valid, faulty, strictly_valid, strictly_faulty, pruned, completed, owned, not_stored, fault_line, fault_lines, leaf_lines, as_printed, IsWrittenAnswer, unfailing, failing}
use Rattle.crdx.specs.Internal.Cause.{IsObjectCause}
use Rattle.crdx.specs.Program.Standard.{by_node, fails_as_written}
use Rattle.crdx.specs.Internal.Found.{AreFound}
use Rattle.crdx.specs.Internal.ExitStatus.{cause_of_leaves}
use Rattle.crdx.specs.declared.arguments.request.ObjectCommand.TheVariants.{Validate, Prune, Default, Leaves}
use Rattle.crdx.specs.declared.running.answer.Answer.{Answer}

-- where no fault is found, there is none
no_fault : (Has : Path → Test → Type 0) → AreReported Has [] → (path : Path) (t : Test) → Has path t → ⊥
no_fault Has ([], are, same) path t is = absurd (contained [] _ (are.all path t is))
no_fault Has (f ∷ fs, are, same) path t is = cc

-- the line of a body with its envelope
abbrev pub IsPrinted : Data → Members → Answer → Type 0
IsPrinted body envelope a = (a.status ≡ 0) × IsTree body × ((whole : Data) × IsJoined body envelope whole × (string_bytes a.out ≡ line None whole))

module _ (N : Node) (document : Data) where
  valid_answer : (strict : Bool) (v : Data) → ((M : Node) (w : Data) → IsStrictlyValid M w ↔ (IsValid M w × IsPruned M w w)) → body_of document ≡ v → AreFound strict N v []
      → IsObjectAnswer N document (Validate strict) 0 (codes "valid\n")
  valid_answer false v law is are = valid (subst (IsValid N) (sym is) (no_fault (HasFault N v) are))
  valid_answer true v law is are =
      let both = (law N v).0 (no_fault (HasStrictFault N v) are) in
      strictly_valid (subst (IsValid N) (sym is) both.0) (subst (λ w. IsPruned N w w) (sym is) both.1)

  faulty_answer : (strict : Bool) (v : Data) (f : Fault) (faults : List Fault) → body_of document ≡ v → AreFound strict N v (f ∷ faults)
      → IsObjectAnswer N document (Validate strict) 1 (fault_lines (map reported (f ∷ faults)))
  faulty_answer false v f faults is ([], are, same) = cc
  faulty_answer false v f faults is (g ∷ fs, are, same) =
      subst (λ ts. IsObjectAnswer N document (Validate false) 1 (fault_lines ts)) (sym same) (faulty (g ∷ fs) (subst (λ w. AreFailures (HasFault N w) (g ∷ fs)) (sym is) are) (λ e. cc))
  faulty_answer true v f faults is ([], are, same) = cc
  faulty_answer true v f faults is (g ∷ fs, are, same) =
      subst (λ ts. IsObjectAnswer N document (Validate true) 1 (fault_lines ts)) (sym same) (strictly_faulty (g ∷ fs) (subst (λ w. AreFailures (HasStrictFault N w) (g ∷ fs)) (sym is) are) (λ e. cc))

  -- `valid`, or the lines of what was found
  pub found_answer : (strict : Bool) (v : Data) (faults : List Fault) → ((M : Node) (w : Data) → IsStrictlyValid M w ↔ (IsValid M w × IsPruned M w w)) → body_of document ≡ v → AreFound strict N v faults
      → (a : Answer) → (length faults ≡ 0 → (a.status ≡ 0) × (string_bytes a.out ≡ codes "valid\n")) → (length faults ≢ 0 → (a.status ≡ 1) × (string_bytes a.out ≡ flat_map (λ f. fault_line (reported f)) faults))
      → IsObjectAnswer N document (Validate strict) a.status (string_bytes a.out)
  found_answer strict v [] law is are a none some = let said = none refl in rw (said.0, said.1) (valid_answer strict v law is are)
  found_answer strict v (f ∷ faults) law is are a none some =
      let said = some (λ e. cc) in
      rw (said.0, said.1 ∙ sym (flat_map-map fault_line reported (f ∷ faults))) (faulty_answer strict v f faults is are)

  pub pruned_answer : (v w : Data) (parts : Members) (a : Answer) → v ≡ body_of document → parts ≡ envelope_in document → IsPruned N v w
      → IsPrinted w parts a → IsObjectAnswer N document Prune a.status (string_bytes a.out)
  pruned_answer v w parts a body envelope is said =
      rw (said.0, said.2.2) (pruned w said.2.0 (subst (λ u. IsPruned N u w) body is) said.1 (subst (λ ps. IsJoined w ps said.2.0) envelope said.2.1))

  pub completed_answer : (v w : Data) (parts : Members) (a : Answer) → v ≡ body_of document → parts ≡ envelope_in document → IsCompleted N v w
      → IsPrinted w parts a → IsObjectAnswer N document Default a.status (string_bytes a.out)
  completed_answer v w parts a body envelope is said =
      rw (said.0, said.2.2) (completed w said.2.0 (subst (λ u. IsCompleted N u w) body is) said.1 (subst (λ ps. IsJoined w ps said.2.0) envelope said.2.1))

  pub owned_answer : (v : Data) (leaves : List Leaf) (text : List ℕ) → body_of document ≡ v → IsStored N v → AreLeaves N v (map elements_of leaves) → text ≡ leaf_lines (map elements_of leaves)
      → IsObjectAnswer N document Leaves 0 text
  owned_answer v leaves text is stored are said =
      rw said (owned (map elements_of leaves) (subst (IsStored N) (sym is) stored) (subst (λ w. AreLeaves N w (map elements_of leaves)) (sym is) are))

  pub leaves_cause : (v : Data) (fault : LFault) → body_of document ≡ v → (fault ≡ l.NotStored → IsStored N v → ⊥) → IsObjectCause (by_node N) document Leaves (cause_of_leaves fault)
  leaves_cause v l.NotStored is not = not_stored (subst (λ w. IsStored N w → ⊥) (sym is) (not refl))
  leaves_cause v l.NoMemory is not = tt

-- the lines of faults by a schema as it is written
lines_of_faults : (faults : List judged_code.Fault) → flat_map (λ f. fault_line (as_printed (judged.reported f))) faults ≡ fault_lines (map as_printed (map judged.reported faults))
lines_of_faults faults = sym (flat_map-map fault_line as_printed (map judged.reported faults) ∙ flat_map-map (λ r. fault_line (as_printed r)) judged.reported faults)

pub written_answer : (raw document : Data) (faults : List judged_code.Fault) → judged.AreFaults fails_as_written raw document faults
    → (a : Answer) → (length faults ≡ 0 → (a.status ≡ 0) × (string_bytes a.out ≡ codes "valid\n"))
    → (length faults ≢ 0 → (a.status ≡ 1) × (string_bytes a.out ≡ flat_map (λ f. fault_line (as_printed (judged.reported f))) faults))
    → IsWrittenAnswer raw document a.status (string_bytes a.out)
written_answer raw document [] ([], are, same) a none some =
    let said = none refl in
    rw (said.0, said.1) (unfailing (λ path t is. absurd (contained [] _ (are.all path t is))))
written_answer raw document [] (g ∷ fs, are, same) a none some = cc
written_answer raw document (f ∷ faults) ([], are, same) a none some = cc
written_answer raw document (f ∷ faults) (g ∷ fs, are, same) a none some =
    let said = some (λ e. cc) in
    rw (said.0, said.1 ∙ lines_of_faults (f ∷ faults) ∙ ap (λ rs. fault_lines (map as_printed rs)) same) (failing (g ∷ fs) are (λ e. cc))
