-- What the answers to lines say together, one line after the other, and what is out where they end early.
use Rattle.std.proofs.Common.{◌≡◌, ℕ, suc, ◌+◌, List, [], ◌∷◌, ◌++◌, length, take, ◌<◌, ◌⊎◌, Option, Ok, Err, refl, sym, ap, ◌∙◌, subst, inl, inr, arith, length-append, append-nil, append_assoc}
use Rattle.std.specs.Prelude.{max, Result, IfOk, IfErr, OnOk}
use Rattle.std.proofs.Math.ListN.{replicate}
use Rattle.std.proofs.lemmas.List.{length-replicate}
use Rattle.std.specs.Io.KnownBytes.{Appends, Keeps}
use Rattle.std.proofs.KnownBytes.{Appends-nil, Appends-trans, Appends-kept, Keeps-refl}
use Rattle.std.proofs.Math.Seq.{take-append-add}
use Rattle.jtree.specs.declared.read_with.Numbers.{Numbers}
use Rattle.crdx.specs.Program.Standard.{Standard}
use Rattle.crdx.specs.Program.LineAnswers.{IsLineAnswer, AreLineAnswers, AreAnswered, AreOut, AreCut}
use Rattle.crdx.specs.Internal.LineProgress.{IsAnsweredSoFar, IsNextAnswer, IsUnreadCause, IsCutCause, IsLinesCause}
use Rattle.crdx.specs.Internal.Cause.{IsObjectsCause, IsLinesEnd}
use Rattle.crdx.specs.Internal.ExitStatus.{status}
use Rattle.crdx.specs.Program.Requested.{numbers_of, IsRequestedStandard}
use Rattle.crdx.specs.Program.RunResult.{Effects, IsRunResult, IsLinesResult, lines_of, read_failed, on_lines, all_answered, line_unread, line_unwritten, lines_left}
use Rattle.crdx.specs.declared.arguments.request.ObjectArguments.{ObjectArguments}
use Rattle.crdx.specs.declared.arguments.request.Request.TheVariants.{ObjectLines}
use Rattle.crdx.proofs.RunLemmas.{result_of_nothing, result_of_input}
use Rattle.crdx.specs.declared.arguments.request.ObjectCommand.{ObjectCommand}
use Rattle.crdx.specs.declared.running.causes.Cause.{Cause}
use Rattle.crdx.specs.declared.running.ended.Ended.{Ended}
use Rattle.crdx.specs.declared.running.refusal.Refusal.{Refusal}
use Rattle.crdx.specs.declared.running.causes.Cause.TheVariants.{Write, NoMemory, Read}

module _ (numbers : Numbers) (S : Standard) (command : ObjectCommand) where
  -- one line more
  pub answers_more : (number : ℕ) (lines : List (List ℕ)) (status : ℕ) (text line : List ℕ) (s : ℕ) (t : List ℕ) → AreLineAnswers numbers S command number lines status text
      → IsLineAnswer numbers S command (number + length lines) line s t → AreLineAnswers numbers S command number (lines ++ line ∷ []) (max status s) (text ++ t)
  answers_more number [] status text line s t (zero, none) is =
      let here : number + 0 ≡ number = omega arith in
      let least : max status s ≡ max s 0 = omega (arith, zero) in
      let said : text ++ t ≡ t ++ [] = ap (λ l. l ++ t) none ∙ sym (append-nil t) in
      (s, t, 0, [], subst (λ n. IsLineAnswer numbers S command n line s t) here is, (refl, refl), least, said)
  answers_more number (first ∷ lines) status text line s t (a, said, later, more, answer, rest, greatest, joined) is =
      let there : number + suc (length lines) ≡ (number + 1) + length lines = omega arith in
      let next = answers_more (number + 1) lines later more line s t rest (subst (λ n. IsLineAnswer numbers S command n line s t) there is) in
      let all : max status s ≡ max a (max later s) = omega (arith, greatest) in
      (a, said, max later s, more ++ t, answer, next, all, ap (λ l. l ++ t) joined ∙ append_assoc said more t)

  module _ (first : List (List ℕ) → Type 0) where
    -- nothing is answered yet
    pub none_answered : (out : Option (List ℕ)) → IsAnsweredSoFar first first numbers S command 0 0 out out
    none_answered out = record {
      lines = [];
      text = [];
      after = λ rest is. is;
      answers = (refl, refl);
      counted = refl;
      out = Appends-nil out;
    }

    module _ (now : List (List ℕ) → Type 0) (count status : ℕ) (old new : Option (List ℕ)) (s : IsAnsweredSoFar first now numbers S command count status old new) where
      -- and those that were answered are all
      pub all_answered_at_end : now [] → AreAnswered first numbers S command s.lines [] status s.text
      all_answered_at_end end = record { there = s.after [] end; answers = s.answers }

      -- they are out, where others come
      pub out_so_far : (rest : List (List ℕ)) (later : Option (List ℕ)) → now rest → Keeps new later → AreOut first numbers S command rest old later
      out_so_far rest later come keeps = record {
        lines = s.lines;
        status = status;
        text = s.text;
        answered = record { there = s.after rest come; answers = s.answers };
        out = Appends-kept old new later s.text s.out keeps;
      }

      -- why there is no answer after them
      pub unread_cause : (some : (rest : List (List ℕ)) × now rest) (unread read unfailed failed : ℕ) (cause : Cause) → failed ≡ unfailed → IsUnreadCause unread read cause
          → IsLinesCause first numbers S command unread read old new unfailed failed cause
      unread_cause some unread read unfailed failed (Read i) same why = (why, same, inr (some.0, out_so_far some.0 new some.1 (Keeps-refl new)))
      unread_cause some unread read unfailed failed NoMemory same why = (same, inr (some.0, out_so_far some.0 new some.1 (Keeps-refl new)))
      unread_cause some unread read unfailed failed _ same why = absurd why

      module _ (next : List (List ℕ) → Type 0) (here : ℕ) (t : List ℕ) (a : IsNextAnswer now next numbers S command (count + 1) here t) where
        answered_there : (rest : List (List ℕ)) → next rest → AreAnswered first numbers S command (s.lines ++ a.line ∷ []) rest (max status here) (s.text ++ t)
        answered_there rest come =
            let number : count + 1 ≡ 1 + length s.lines = omega (arith, s.counted) in
            record {
              there = subst first (sym (append_assoc s.lines (a.line ∷ []) rest)) (s.after (a.line ∷ rest) (a.takes rest come));
              answers = answers_more 1 s.lines status s.text a.line here t s.answers (subst (λ n. IsLineAnswer numbers S command n a.line here t) number a.answer);
            }

        pub answered_more : (later : Option (List ℕ)) → Appends new later t → (some : (rest : List (List ℕ)) × next rest) → IsAnsweredSoFar first next numbers S command (count + 1) (max status here) old later
        answered_more later out some = record {
          lines = s.lines ++ a.line ∷ [];
          text = s.text ++ t;
          after = λ rest come. (answered_there rest come).there;
          answers = (answered_there some.0 some.1).answers;
          counted = omega (arith, s.counted, length-append s.lines (a.line ∷ []));
          out = Appends-trans old new later s.text t s.out out;
        }

        -- a beginning of the answer is out
        pub cut_cause : (some : (rest : List (List ℕ)) × next rest) (unread read unfailed failed : ℕ) (later : Option (List ℕ)) (cause : Cause) → IsCutCause t new later unfailed failed cause
            → IsLinesCause first numbers S command unread read old later unfailed failed cause
        cut_cause some unread read unfailed failed later (Write n) (has, (bytes, out)) = (
          has,
          (
            some.0,
            record {
              lines = s.lines ++ a.line ∷ [];
              status = max status here;
              text = s.text ++ t;
              answered = answered_there some.0 some.1;
              bytes = length s.text + bytes;
              out = subst (Appends old later) (sym (take-append-add s.text t bytes)) (Appends-trans old new later s.text (take bytes t) s.out out);
            },
          ),
        )
        cut_cause some unread read unfailed failed later _ why = absurd why

-- the lines at hand later were at hand before
module _ (numbers : Numbers) (S : Standard) (command : ObjectCommand) (later before : List (List ℕ) → Type 0) (among : (lines : List (List ℕ)) → later lines → before lines) where
  pub answered_before : (lines rest : List (List ℕ)) (status : ℕ) (text : List ℕ) → AreAnswered later numbers S command lines rest status text → AreAnswered before numbers S command lines rest status text
  answered_before lines rest status text a = record { there = among (lines ++ rest) a.there; answers = a.answers }

  out_before : (rest : List (List ℕ)) (old new : Option (List ℕ)) → AreOut later numbers S command rest old new → AreOut before numbers S command rest old new
  out_before rest old new o = record {
    lines = o.lines;
    status = o.status;
    text = o.text;
    answered = answered_before o.lines rest o.status o.text o.answered;
    out = o.out;
  }

  cut_before : (rest : List (List ℕ)) (old new : Option (List ℕ)) → AreCut later numbers S command rest old new → AreCut before numbers S command rest old new
  cut_before rest old new o = record {
    lines = o.lines;
    status = o.status;
    text = o.text;
    answered = answered_before o.lines rest o.status o.text o.answered;
    bytes = o.bytes;
    out = o.out;
  }

  pub cause_before : (unread read : ℕ) (old new : Option (List ℕ)) (unfailed failed : ℕ) (cause : Cause) → IsLinesCause later numbers S command unread read old new unfailed failed cause
      → IsLinesCause before numbers S command unread read old new unfailed failed cause
  cause_before unread read old new unfailed failed (Read i) (has, same, inl keeps) = (has, same, inl keeps)
  cause_before unread read old new unfailed failed (Read i) (has, same, inr (rest, out)) = (has, same, inr (rest, out_before rest old new out))
  cause_before unread read old new unfailed failed (Write n) (has, (rest, cut)) = (has, (rest, cut_before rest old new cut))
  cause_before unread read old new unfailed failed NoMemory (same, inl keeps) = (same, inl keeps)
  cause_before unread read old new unfailed failed NoMemory (same, inr (rest, out)) = (same, inr (rest, out_before rest old new out))
  cause_before unread read old new unfailed failed _ why = absurd why

module _ (run : Effects) (arguments : ObjectArguments) where
  abbrev IsCauseOf : Standard → Cause → Type 0
  IsCauseOf S = IsLinesCause (lines_of run arguments) (numbers_of arguments.common) S arguments.command run.failed_reads_before run.failed_reads run.output_before run.output run.failed_writes_before run.failed_writes

  module _ (S : Standard) (asked : IsRequestedStandard run.documents arguments S) where
    on_these : (status : ℕ) → IsLinesResult run S arguments status → IsRunResult run (ObjectLines arguments) status
    on_these status is = on_lines arguments S status refl asked is

    no_more : (code : ℕ) → run.failed_writes ≡ run.failed_writes_before
        → Keeps run.output_before run.output ⊎ ((rest : List (List ℕ)) × AreOut (lines_of run arguments) (numbers_of arguments.common) S arguments.command rest run.output_before run.output) → code ≡ 5 → IsRunResult run (ObjectLines arguments) code
    no_more code same (inl keeps) five = result_of_nothing run (ObjectLines arguments) code (record { kept = keeps; unfailed = same }) five
    no_more code same (inr (rest, out)) five = rw five (on_these 5 (lines_left rest out same))

    result_of_lines_cause : (cause : Cause) (code : ℕ) → IsCauseOf S cause → (code ≡ status cause) ⊎ (code ≡ 5) → IsRunResult run (ObjectLines arguments) code
    result_of_lines_cause (Read i) code (has, same, inl keeps) (inl four) = rw four (read_failed has (record { kept = keeps; unfailed = same }))
    result_of_lines_cause (Read i) code (has, same, inr (rest, out)) (inl four) = rw four (on_these 4 (line_unread rest has out same))
    result_of_lines_cause (Read i) code (has, same, out) (inr five) = no_more code same out five
    result_of_lines_cause (Write n) code (has, (rest, cut)) is = on_these code (line_unwritten rest code is has cut)
    result_of_lines_cause NoMemory code (same, out) (inl five) = no_more code same out five
    result_of_lines_cause NoMemory code (same, out) (inr five) = no_more code same out five
    result_of_lines_cause _ code why is = absurd why

  -- the lines at hand later are answered, or it is said why not
  pub lines_end : (S : Standard) → IsRequestedStandard run.documents arguments S → (later : List (List ℕ) → Type 0) → ((lines : List (List ℕ)) → later lines → lines_of run arguments lines)
      → (unread : ℕ) → unread ≡ run.failed_reads_before → (r : Result Ended Refusal)
      → IfOk r (λ ended. (lines : List (List ℕ)) × (text : List ℕ) × AreAnswered later (numbers_of arguments.common) S arguments.command lines [] ended.status text × Appends run.output_before run.output text)
      → OnOk r (run.failed_writes ≡ run.failed_writes_before)
      → IfErr r (λ why. IsLinesCause later (numbers_of arguments.common) S arguments.command unread run.failed_reads run.output_before run.output run.failed_writes_before run.failed_writes why.cause)
      → IsLinesEnd run arguments r
  lines_end S asked later among unread same (Ok ended) said unfailed why = record {
    answered = (S, asked, said.0, said.1, answered_before (numbers_of arguments.common) S arguments.command later (lines_of run arguments) among said.0 [] ended.status said.1 said.2, said.3);
    unfailed = unfailed;
    cause = tt;
  }
  lines_end S asked later among unread same (Err r) said unfailed why = record {
    answered = tt;
    unfailed = tt;
    cause = inr (
      S,
      asked,
      cause_before (numbers_of arguments.common) S arguments.command later (lines_of run arguments) among run.failed_reads_before run.failed_reads run.output_before run.output run.failed_writes_before run.failed_writes r.cause
          (subst (λ n. IsLinesCause later (numbers_of arguments.common) S arguments.command n run.failed_reads run.output_before run.output run.failed_writes_before run.failed_writes r.cause) same why),
    );
  }

  result_of_no_lines : (r : Refusal) (code : ℕ) → IsObjectsCause run arguments r.cause → (code ≡ status r.cause) ⊎ (code ≡ 5) → IsRunResult run (ObjectLines arguments) code
  result_of_no_lines r code (inl (input, nothing)) said = result_of_input run (ObjectLines arguments) r.cause code input nothing said
  result_of_no_lines r code (inr (S, asked, why)) said = result_of_lines_cause S asked r.cause code why said

  -- all lines were answered, or it was said why not
  pub result_of_lines : (r : Result Ended Refusal) (code : ℕ) → IsLinesEnd run arguments r → IfOk r (λ ended. code ≡ ended.status) → IfErr r (λ why. (code ≡ status why.cause) ⊎ (code ≡ 5)) → IsRunResult run (ObjectLines arguments) code
  result_of_lines (Ok ended) code end is why =
      let said = end.answered in
      rw is (on_these said.0 said.1 ended.status (all_answered said.2 ended.status said.3 said.4 said.5 end.unfailed))
  result_of_lines (Err r) code end is said = result_of_no_lines r code end.cause said

-- a line that is longer than this
pub long_line : (n : ℕ) → (line : List ℕ) × (n < length line)
long_line n = (replicate {A = ℕ} (n + 1) 0, omega (arith, length-replicate {A = ℕ} (n + 1) 0))
