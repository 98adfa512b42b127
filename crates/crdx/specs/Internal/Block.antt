-- Where the lines of a block end.
use Rattle.std.proofs.Common.{refl, sym, subst, append-nil}
use Rattle.std.specs.Prelude.{◌≡◌, ◌+◌, ◌<◌, ◌≤◌, ◌++◌, ◌∷◌, [], Bool, true, ℕ, List, length, take, Option, Some, None, slice_index}
use Rattle.jtree.specs.Data.{Data}
use Rattle.jtree.specs.PartText.{front_text}
use Rattle.crdx.specs.Output.Line.{line, lines}
use Rattle.crdx.specs.declared.walk.blocks.Front.{Front}
use Rattle.crdx.specs.declared.walk.line.Envelope.{Envelope}

-- the line of each item ends there
pub record HasEnds (e : Option Envelope) (items : List Data) (ends : List ℕ) : Type 0 where
  pub each : length ends ≡ length items
  pub at : (k : ℕ) → k < length items → slice_index ends k ≡ length (lines e (take (k + 1) items))

-- the first n ends are at most `taken`, and the next one is not
pub record IsCountOfEnds (ends : List ℕ) (taken n : ℕ) : Type 0 where
  pub within : n ≤ length ends
  pub whole : (k : ℕ) → k < n → slice_index ends k ≤ taken
  pub next : n < length ends → taken < slice_index ends n

-- the lines of the items, and where they end
pub record Holds (e : Option Envelope) (items : List Data) (bytes ends : List ℕ) : Type 0 where
  pub written : bytes ≡ lines e items
  pub ended : HasEnds e items ends

-- where it is known, the part begins there in the compact text
abbrev pub IsFrontOf : Data → Option Front → Type 0
IsFrontOf v None = Unit {0}
IsFrontOf v (Some f) = f.bytes ≡ length (front_text f.depth v)

-- the line of the sample, and where a part begins in its text
abbrev pub IsLineOf : Option Envelope → Data → List ℕ → Option Front → Type 0
IsLineOf e v l f = (l ≡ line e v) × IsFrontOf v f

-- where it is known, this is the line of the last item
abbrev pub IsLastLine : Option Envelope → List Data → Bool → List ℕ → Option Front → Type 0
IsLastLine e items known l f = known ≡ true → (before : List Data) (v : Data) → items ≡ before ++ v ∷ [] → IsLineOf e v l f

-- With the lines of these items, a block with these bytes and ends has become one with those; the envelope stays.
pub record TakesLines (e e_now : Option Envelope) (items : List Data) (bytes ends bytes_now ends_now : List ℕ) (known : Bool) (l : List ℕ) (f : Option Front) : Type 0 where
  pub same : e_now ≡ e
  pub holds : (before : List Data) → Holds e before bytes ends → Holds e (before ++ items) bytes_now ends_now
  pub last : IsLastLine e items known l f

nothing_last : (before : List Data) (v : Data) → [] ≡ before ++ v ∷ [] → ⊥
nothing_last [] v is = cc
nothing_last (u ∷ before) v is = cc

pub takes_none : (e : Option Envelope) (bytes ends : List ℕ) (known : Bool) (l : List ℕ) (f : Option Front) → TakesLines e e [] bytes ends bytes ends known l f
takes_none e bytes ends known l f = record {
  same = refl;
  holds = λ before h. subst (λ us. Holds e us bytes ends) (sym (append-nil before)) h;
  last = λ is before v none. absurd (nothing_last before v none);
}
