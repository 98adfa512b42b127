-- An enumeration with its current sample, and what its calls answer (this project's own).
use Rattle.std.specs.Prelude.{◌≡◌, ℕ, ◌+◌, ◌*◌, ◌≤◌, ◌++◌, ◌∷◌, [], refl, List, length, Option, Some, None, Bool, is_some}
use Rattle.std.specs.Coded.{Coded, code_by, coded×, coded_option}
use Rattle.jtree.specs.Data.{Data}
use Rattle.jtree.specs.Internal.Code.{data_coded}
use Rattle.jtree.specs.Order.{tree_cmp}
use Rattle.plan.specs.Samples.Candidates.{IsWidth}
use Rattle.plan.specs.Samples.Question.{Question, question_coded}
use Rattle.plan.specs.Samples.Steps.{delay}
use Rattle.enumerate.specs.Least.{IsLeast}
use Rattle.enumerate.specs.Page.{IsPage, IsPastSample}

-- the question of the plan, and the current sample; None once the enumeration has ended: there is no next sample, or memory ran out
pub record Enumeration : Type 0 where
  pub question : Question
  pub at : Option Data

abbrev pub enumeration_coded : Coded Enumeration
enumeration_coded = code_by (Question × Option Data) (coded× question_coded (coded_option data_coded)) (λ e. (e.question, e.at)) (λ p. record { question = p.0; at = p.1 }) (λ _. refl)

-- the least sample past a place; or there is none
abbrev pub IsNextSample : Question → Option Data → Option Data → Type 0
IsNextSample q after (Some v) = IsLeast tree_cmp (IsPastSample q after) v
IsNextSample q after None = (v : Data) → IsPastSample q after v → ⊥

-- an enumeration at the least sample past a place; none exactly where there is no such sample
abbrev pub IsStarted : Question → Option Data → Option Enumeration → Type 0
IsStarted q after (Some live) = (live.question ≡ q) × ((v : Data) × ((live.at ≡ Some v) × IsNextSample q after (Some v)))
IsStarted q after None = IsNextSample q after None

-- An enumeration moved from its current sample to the next one, and has more; or there is no next one, and it has ended.
pub record IsAdvanced (old new : Enumeration) (more : Bool) : Type 0 where
  pub last : Data
  pub old_at : old.at ≡ Some last
  pub next : IsNextSample old.question (Some last) new.at
  pub more_is : more ≡ is_some new.at

-- at most as many steps as a sample may take, in a plan of this width
abbrev pub IsWithinDelay : Question → ℕ → ℕ → Type 0
IsWithinDelay q before after = (width : ℕ) → IsWidth q width → after ≤ before + delay q.limit width

-- the place past which the samples after these items are: the last item, or the place before the items where there is none
abbrev pub place_after : Option Data → List Data → Option Data
place_after before [] = before
place_after before (v ∷ vs) = place_after (Some v) vs

-- The samples of a page past a place were lent and taken, in at most as many steps as each of them may take; the enumeration is at the
-- next one past them.
pub record LendsPage (q : Question) (after : Option Data) (count : ℕ) (end : Bool) (has_taken : List Data → Type 0) (at : Option Data) (steps_before steps_now : ℕ) : Type 0 where
  pub items : List Data
  pub taken : has_taken items
  pub page : IsPage q after count items end
  pub next : IsNextSample q (place_after after items) at
  pub steps : (width : ℕ) → IsWidth q width → steps_now ≤ steps_before + length items * delay q.limit width

-- The first samples of a page past a place were lent and taken.
pub record LendsPart (q : Question) (after : Option Data) (count : ℕ) (has_taken : List Data → Type 0) : Type 0 where
  pub items : List Data
  pub taken : has_taken items
  pub part : (whole : List Data) (end : Bool) → IsPage q after count whole end → (rest : List Data) × (whole ≡ items ++ rest)
