-- The result of `pools`, by the document that is suggested or by why there is none.
use Rattle.std.proofs.Common.{◌≡◌, ◌⊎◌, ℕ, List, true, Bor, None, Ok, Err, refl, ap, ◌∙◌, subst, inl, inr, take, map, string_bytes}
use Rattle.std.specs.Prelude.{IfOk, IfErr, OnErr, Result}
use Rattle.std.specs.Io.KnownBytes.{Appends, Keeps}
use Rattle.jtree.specs.Data.{Data}
use Rattle.schema.specs.Document.Raw.{Raw}
use Rattle.schema.specs.Nodes.Node.{Node}
use Rattle.schema.specs.Nodes.ByPlace.{AreNodesOf}
use Rattle.suggest.specs.Suggested.Fault.{IsSuggestFault}
use Rattle.suggest.specs.Suggested.Wanted.{Wanted}
use Rattle.suggest.specs.declared.fault.SuggestFault.{SuggestFault}
use Rattle.suggest.specs.declared.fault.SuggestFault.TheVariants as suggest
use Rattle.jtree.specs.View.{data_of}
use Rattle.jtree.specs.declared.value.Tree.{Tree}
use Rattle.plan.specs.declared.pool_limits.PoolLimits.{PoolLimits}
use Rattle.suggest.specs.Suggested.Document.{suggested_document}
use Rattle.crdx.specs.Output.Line.{line}
use Rattle.crdx.specs.Program.Documents.{Lines, AreLinesAmong}
use Rattle.crdx.specs.Program.Objects.{HasInput, IsNoText, IsBrokenAt}
use Rattle.crdx.specs.Program.Requested.{numbers_of, IsAcceptedSchema, pool_limits_of}
use Rattle.crdx.specs.Program.RunResult.{Effects, WritesNothing, IsRunResult, IsWanted, IsPoolsRequest, pools_line, suggested, unwritten, unread_objects, not_suggested, on_objects, read_failed}
use Rattle.crdx.specs.Internal.Cause.{IsObjectInputCause, IsSuggestionCause, IsPoolsRequestCause}
use Rattle.crdx.specs.Internal.ExitStatus.{status, cause_of_suggestion, IsWritten}
use Rattle.crdx.specs.declared.arguments.request.PoolsArguments.{PoolsArguments}
use Rattle.crdx.specs.declared.arguments.request.Request.TheVariants.{SuggestPools}
use Rattle.crdx.specs.declared.running.answer.Answer.{Answer}
use Rattle.crdx.specs.declared.running.causes.Cause.{Cause}
use Rattle.crdx.specs.declared.running.refusal.Refusal.{Refusal}
use Rattle.crdx.specs.declared.running.causes.Cause.TheVariants.{Read, Document, Line, NoMemory}
use Rattle.crdx.proofs.RunLemmas.{result_of_input, result_of_nothing}
use Rattle.crdx.proofs.ObjectInputLemmas.{objects_before, inputs_before, input_cause_as}

-- what is so of the lines of an input is also so
pub input_also : (at_hand : Lines) (words : List (List ℕ)) (Is Also : List (List ℕ) → Type 0) → ((lines : List (List ℕ)) → Is lines → Also lines) → HasInput at_hand words Is → HasInput at_hand words Also
input_also at_hand words Is Also also (word, among, lines, at, is) = (word, among, lines, at, also lines is)

module _ (run : Effects) (arguments : PoolsArguments) (nothing : WritesNothing run) where
  module _ (raw : Raw) (N : Node) (accepted : IsAcceptedSchema run.documents arguments.common raw) (nodes : AreNodesOf true N raw) where
    -- an input that is named has no objects, or could not be read
    result_of_objects : (cause : Cause) (code : ℕ) → IsObjectInputCause (numbers_of arguments.common) (HasInput run.lines (map (λ s. s.now) arguments.from.items)) run.failed_reads_before run.failed_reads cause
        → code ≡ status cause → IsRunResult run (SuggestPools arguments) code
    result_of_objects (Read i) code why e = rw e (read_failed why nothing)
    result_of_objects (Document i fault) code why e =
        rw e (on_objects arguments 3 refl (unread_objects (raw, accepted) (fault, why.0, input_also run.lines _ (IsNoText (numbers_of arguments.common) fault) _ (λ ls is. inl is) why.1) nothing))
    result_of_objects (Line number fault) code why e =
        rw e (on_objects arguments 3 refl (unread_objects (raw, accepted) (fault, why.0, input_also run.lines _ (IsBrokenAt (numbers_of arguments.common) number fault) _ (λ ls is. inr (number, is)) why.1) nothing))
    result_of_objects NoMemory code why e = result_of_nothing run (SuggestPools arguments) code nothing e
    result_of_objects _ code why e = absurd why

    module _ (w : Wanted) (wanted : IsWanted run.lines arguments w) where
      asked : IsPoolsRequest run.documents run.lines arguments raw N w
      asked = record { schema = accepted; root = nodes; wanted = wanted }

      -- no document is suggested
      result_of_fault : (fault : SuggestFault) (code : ℕ) → IsSuggestFault (pool_limits_of arguments.common) raw.tree N w fault → code ≡ status (cause_of_suggestion fault)
          → IsRunResult run (SuggestPools arguments) code
      result_of_fault (suggest.BadPath text) code why e = rw e (on_objects arguments 3 refl (not_suggested raw N w (suggest.BadPath text) asked (λ p. cc) why nothing))
      result_of_fault (suggest.NotInObject text) code why e = rw e (on_objects arguments 3 refl (not_suggested raw N w (suggest.NotInObject text) asked (λ p. cc) why nothing))
      result_of_fault suggest.TooLarge code why e = rw e (on_objects arguments 3 refl (not_suggested raw N w suggest.TooLarge asked (λ p. cc) why nothing))
      result_of_fault suggest.NoMemory code why e = result_of_nothing run (SuggestPools arguments) code nothing e

    result_of_suggestion : (cause : Cause) (code : ℕ) → IsSuggestionCause run.lines run.failed_reads_before run.failed_reads arguments raw.tree N cause → code ≡ status cause
        → IsRunResult run (SuggestPools arguments) code
    result_of_suggestion cause code (inl why) e = result_of_objects cause code why e
    result_of_suggestion cause code (inr (w, fault, wanted, why, same)) e = result_of_fault w wanted fault code why (rw same at e)

  result_of_refusal : (cause : Cause) (code : ℕ) → IsPoolsRequestCause run.documents run.lines run.failed_reads_before run.failed_reads arguments cause → (code ≡ status cause) ⊎ (code ≡ 5)
      → IsRunResult run (SuggestPools arguments) code
  result_of_refusal cause code why (inr five) = result_of_nothing run (SuggestPools arguments) code nothing five
  result_of_refusal cause code (inl why) (inl e) = result_of_input run (SuggestPools arguments) cause code why nothing (inl e)
  result_of_refusal cause code (inr (raw, N, accepted, nodes, why)) (inl e) = result_of_suggestion raw N accepted nodes cause code why e

module _ (run : Effects) (arguments : PoolsArguments) where
  -- the document is out, or standard output failed after a beginning of it
  result_of_written : (answer : Answer) (code : ℕ) (raw : Raw) (N : Node) (w : Wanted) → answer.status ≡ 0 → IsPoolsRequest run.documents run.lines arguments raw N w
      → string_bytes answer.out ≡ pools_line arguments raw.tree N w → IsWritten answer run.output_before run.output run.failed_writes_before run.failed_writes code
      → IsRunResult run (SuggestPools arguments) code
  result_of_written answer code raw N w done asked is (inl (same, out, unfailed)) =
      rw (same, done) (on_objects arguments 0 refl (suggested raw N w asked (subst (Appends run.output_before run.output) is out) unfailed))
  result_of_written answer code raw N w done asked is (inr (either, failed, (n, out))) =
      on_objects arguments code refl (unwritten raw N w code asked either failed n (subst (λ t. Appends run.output_before run.output (take n t)) is out))

  pub result_of_pools : (r : Result Answer Refusal) (code : ℕ) → IfOk r (λ a. a.status ≡ 0)
      → IfOk r (λ a. (raw : Raw) × (N : Node) × (w : Wanted) × IsPoolsRequest run.documents run.lines arguments raw N w × (string_bytes a.out ≡ pools_line arguments raw.tree N w))
      → IfErr r (λ why. IsPoolsRequestCause run.documents run.lines run.failed_reads_before run.failed_reads arguments why.cause)
      → IfOk r (λ a. IsWritten a run.output_before run.output run.failed_writes_before run.failed_writes code)
      → IfErr r (λ why. (code ≡ status why.cause) ⊎ (code ≡ 5)) → OnErr r (Keeps run.output_before run.output) → OnErr r (run.failed_writes ≡ run.failed_writes_before)
      → IsRunResult run (SuggestPools arguments) code
  result_of_pools (Ok answer) code done (raw, N, w, asked, is) why written said kept unfailed = result_of_written answer code raw N w done asked is written
  result_of_pools (Err r) code done answered why written said kept unfailed = result_of_refusal run arguments (record { kept = kept; unfailed = unfailed }) r.cause code why said

-- ---- of inputs that were at hand before

module _ (at_hand later : Lines) (among : AreLinesAmong later at_hand) (arguments : PoolsArguments) where
  pub wanted_before : (w : Wanted) → IsWanted later arguments w → IsWanted at_hand arguments w
  wanted_before w is = record { objects = objects_before (numbers_of arguments.common) at_hand later among _ w.objects is.objects; varied = is.varied; without = is.without }

  pub suggestion_before : (unread read : ℕ) (raw : Data) (N : Node) (cause : Cause) → IsSuggestionCause later unread read arguments raw N cause → IsSuggestionCause at_hand unread read arguments raw N cause
  suggestion_before unread read raw N cause (inl why) = inl (input_cause_as (numbers_of arguments.common) (HasInput later words) (HasInput at_hand words) (inputs_before at_hand later among words) unread read cause why)
    where
      words : List (List ℕ)
      words = map (λ s. s.now) arguments.from.items
  suggestion_before unread read raw N cause (inr (w, fault, wanted, is, same)) = inr (w, fault, wanted_before w wanted, is, same)

-- the line of the document, as the code asks for it
pub pools_line_as : (arguments : PoolsArguments) (raw : Data) (N : Node) (limits : PoolLimits) (objects others : List Tree) (varied varied' without without' : List (Bor (List ℕ))) → limits ≡ pool_limits_of arguments.common
    → others ≡ objects → varied' ≡ varied → without' ≡ without
    → line None (suggested_document limits raw N (record { objects = map data_of others; varied = map (λ s. s.now) varied'; without = map (λ s. s.now) without' }))
    ≡ pools_line arguments raw N (record { objects = map data_of objects; varied = map (λ s. s.now) varied; without = map (λ s. s.now) without })
pools_line_as arguments raw N limits objects others varied varied' without without' same os vs ws =
    ap (λ l. line None (suggested_document l raw N (record { objects = map data_of others; varied = map (λ s. s.now) varied'; without = map (λ s. s.now) without' }))) same
    ∙ ap (λ x. pools_line arguments raw N (record { objects = map data_of x; varied = map (λ s. s.now) varied'; without = map (λ s. s.now) without' })) os
    ∙ ap (λ x. pools_line arguments raw N (record { objects = map data_of objects; varied = map (λ s. s.now) x; without = map (λ s. s.now) without' })) vs
    ∙ ap (λ x. pools_line arguments raw N (record { objects = map data_of objects; varied = map (λ s. s.now) varied; without = map (λ s. s.now) x })) ws

-- why none is suggested, as the code asks for it
pub suggest_fault_as : (arguments : PoolsArguments) (raw : Data) (N : Node) (limits : PoolLimits) (objects others : List Tree) (varied varied' without without' : List (Bor (List ℕ))) (fault : SuggestFault)
    → limits ≡ pool_limits_of arguments.common → others ≡ objects → varied' ≡ varied → without' ≡ without
    → IsSuggestFault limits raw N (record { objects = map data_of others; varied = map (λ s. s.now) varied'; without = map (λ s. s.now) without' }) fault
    → IsSuggestFault (pool_limits_of arguments.common) raw N (record { objects = map data_of objects; varied = map (λ s. s.now) varied; without = map (λ s. s.now) without }) fault
suggest_fault_as arguments raw N limits objects others varied varied' without without' fault same os vs ws is =
    subst (λ x. IsSuggestFault (pool_limits_of arguments.common) raw N (record { objects = map data_of objects; varied = map (λ s. s.now) varied; without = map (λ s. s.now) x }) fault) ws
    (subst (λ x. IsSuggestFault (pool_limits_of arguments.common) raw N (record { objects = map data_of objects; varied = map (λ s. s.now) x; without = map (λ s. s.now) without' }) fault) vs
    (subst (λ x. IsSuggestFault (pool_limits_of arguments.common) raw N (record { objects = map data_of x; varied = map (λ s. s.now) varied'; without = map (λ s. s.now) without' }) fault) os
    (subst (λ l. IsSuggestFault l raw N (record { objects = map data_of others; varied = map (λ s. s.now) varied'; without = map (λ s. s.now) without' }) fault) same is)))
