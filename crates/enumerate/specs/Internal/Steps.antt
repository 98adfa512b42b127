-- What moves cost: where there is no next one, what it takes to find that out.
use Rattle.std.specs.Prelude.{Result, IfOk, ◌≡◌, ℕ, ◌+◌, ◌-◌, ◌*◌, ◌≤◌, length}
use Rattle.plan.specs.Samples.Candidates.{IsWidth}
use Rattle.plan.specs.Samples.Question.{Question}
use Rattle.enumerate.specs.Internal.Nodes.{Costs}
use Rattle.enumerate.specs.Internal.Rows.{slots_from, CostsSlots, CostsAfter}
use Rattle.enumerate.specs.declared.row.RowSlot.{RowSlot}
use Rattle.enumerate.specs.declared.walk.NextTree as answer
use Rattle.enumerate.specs.declared.walk.NextTree.TheVariants as tree_next
use Rattle.enumerate.specs.declared.walk.NextParts.{NextParts}
use Rattle.enumerate.specs.declared.walk.NextParts.TheVariants.{Made, Last}

abbrev pub KeepsMeter : NextParts → ℕ → ℕ → Type 0
KeepsMeter (Made d) old new = Unit {0}
KeepsMeter (Last n) old new = new ≡ old

-- A move of a tree of n nodes takes at most three times what they take; where there is no next tree, less than twice as much.
abbrev pub CostsLast : answer.NextTree → Question → ℕ → ℕ → ℕ → Type 0
CostsLast (tree_next.To t d) q old new n = Unit {0}
CostsLast (tree_next.Last m) q old new n = Costs q old new (2 * n - 1)

abbrev pub CostsLastParts : NextParts → Question → ℕ → ℕ → ℕ → Type 0
CostsLastParts (Made d) q old new n = Unit {0}
CostsLastParts (Last m) q old new n = Costs q old new n

abbrev pub CostsLastSlots : NextParts → Question → ℕ → ℕ → ℕ → ℕ → ℕ → Type 0
CostsLastSlots (Made d) q i place old new n = Unit {0}
CostsLastSlots (Last m) q i place old new n = CostsSlots q i place old new n

-- The slots are walked there and back, for a move of the members of a row.
abbrev pub CostsWalk : Question → ℕ → ℕ → ℕ → ℕ → Type 0
CostsWalk q i old new m = (w : ℕ) → IsWidth q w → new ≤ old + (2 * (length (slots_from q i 0) + 1) + (w + 1) * (3 * m))

-- At a slot: those before it are walked, and those after it are filled, for members of m nodes.
abbrev pub CostsFrom : Question → ℕ → ℕ → ℕ → ℕ → Type 0
CostsFrom q i old new m = (w : ℕ) → IsWidth q w → new ≤ old + (length (slots_from q i 0) + 2 + (w + 1) * m)

-- ---- by what is answered

abbrev pub CostsTree : {E : Type 0} → Result answer.NextTree E → Question → ℕ → ℕ → ℕ → Type 0
CostsTree r q old new n = Costs q old new (3 * n) × IfOk r (λ next. CostsLast next q old new n)

abbrev pub CostsItems : {E : Type 0} → Result NextParts E → Question → ℕ → ℕ → ℕ → Type 0
CostsItems r q old new n = Costs q old new (3 * n) × IfOk r (λ next. CostsLastParts next q old new (2 * n))

abbrev pub CostsMembers : {E : Type 0} → Result NextParts E → Question → ℕ → ℕ → ℕ → ℕ → Type 0
CostsMembers r q i old new n = CostsWalk q i old new n × IfOk r (λ next. CostsLastSlots next q i 0 old new (2 * n))

-- a member of n nodes, after which there were members of so many
abbrev pub CostsMember : {E : Type 0} → Result NextParts E → Question → RowSlot → ℕ → ℕ → ℕ → ℕ → Type 0
CostsMember r q t room old new n = CostsAfter q t old new (3 * n + room) × IfOk r (λ next. CostsLastParts next q old new (2 * n - 1))
