-- What moves cost, step by step.
use Rattle.std.specs.Prelude.{◌≡◌, ℕ, ◌+◌, ◌-◌, ◌*◌, ◌≤◌, List, length}
use Rattle.std.proofs.Common.{ap, ◌∙◌, arith}
use Rattle.std.specs.Prelude.{Option}
use Rattle.jtree.specs.Data.{Data}
use Rattle.jtree.specs.Nodes.{node_count}
use Rattle.plan.specs.Pools.Pools.{Pools}
use Rattle.plan.specs.Samples.Candidates.{IsWidth}
use Rattle.plan.specs.Samples.Sites.{Slot}
use Rattle.enumerate.specs.Internal.Moves.{AreNextMembers}
use Rattle.enumerate.specs.Internal.Walks.{CostsLastFrom}
use Rattle.std.proofs.Math.Nat.{mul-add, mul-le-mul_left}
use Rattle.jtree.specs.declared.value.Member.{Member}
use Rattle.plan.specs.Samples.Candidates.{sort_of}
use Rattle.plan.specs.Samples.Question.{Question}
use Rattle.plan.specs.Samples.Steps.{counted}
use Rattle.plan.specs.declared.sort.Sort.TheVariants as sort
use Rattle.enumerate.specs.Internal.Nodes.{site, IsNodeOf, Costs}
use Rattle.enumerate.specs.Internal.Rows.{slots_from, CostsSlots, Demand, IsRowSlot}
use Rattle.enumerate.specs.declared.row.RowSlot.{RowSlot}
use Rattle.enumerate.specs.Internal.Steps.{KeepsMeter, CostsLast, CostsLastParts, CostsWalk, CostsFrom}
use Rattle.enumerate.specs.declared.walk.NextTree as answer
use Rattle.enumerate.specs.declared.walk.NextTree.TheVariants as tree_next
use Rattle.enumerate.specs.declared.walk.NextParts.{NextParts}
use Rattle.enumerate.specs.declared.walk.NextParts.TheVariants.{Made, Last}
use Rattle.enumerate.proofs.walks.Membership.{slots_within}
use Rattle.enumerate.proofs.lists.Lemmas.{some_nodes}

-- ---- nodes

-- a part of a sum
pub part_within : (n j m : ℕ) → n + j ≡ m → n ≤ m
part_within n j m sum = omega (arith, sum)

-- fewer nodes cost no more
pub cost_within : (w n m : ℕ) → n ≤ m → (w + 1) * n ≤ (w + 1) * m
cost_within w n m h = mul-le-mul_left (w + 1) h

pub split_cost : (w a b m : ℕ) → m ≡ a + b → (w + 1) * m ≡ (w + 1) * a + (w + 1) * b
split_cost w a b m e = ap (λ z. (w + 1) * z) e ∙ mul-add (w + 1) a b

module _ (q : Question) where
  pub costs_within : (old new n m : ℕ) → n ≤ m → Costs q old new n → Costs q old new m
  costs_within old new n m few h = λ w wide. omega (arith, cost_within w n m few, h w wide)

  pub costs_thrice : (old new n : ℕ) → 1 ≤ n → Costs q old new 1 → Costs q old new (3 * n)
  costs_thrice old new n some h = costs_within old new 1 (3 * n) (omega (arith, some)) h

  -- what a leaf takes where it has no next candidate
  pub costs_less : (m : answer.NextTree) (old new n : ℕ) → 1 ≤ n → Costs q old new 1 → CostsLast m q old new n
  costs_less (tree_next.To t d) old new n some h = tt
  costs_less (tree_next.Last k) old new n some h = costs_within old new 1 (2 * n - 1) (omega (arith, some)) h

  pub costs_thrice_within : (old new n m : ℕ) → n ≤ m → Costs q old new (3 * n) → Costs q old new (3 * m)
  costs_thrice_within old new n m few h = costs_within old new (3 * n) (3 * m) (omega (arith, few)) h

  -- some nodes that have no next tree, and as many as there may be
  pub costs_then : (old mid new n m : ℕ) → n ≤ m → Costs q old mid (2 * n - 1) → Costs q mid new m → Costs q old new (3 * m)
  costs_then old mid new n m few h k = λ w wide. omega (arith, cost_within w (2 * n - 1) (2 * m) (omega (arith, few)), split_cost w (2 * m) m (3 * m) (omega arith), h w wide, k w wide)

  -- some nodes, and the others
  pub costs_both : (old mid new n m : ℕ) → n ≤ m → Costs q old mid n → Costs q mid new (m - n) → Costs q old new m
  costs_both old mid new n m few h k = λ w wide. omega (arith, split_cost w n (m - n) m (omega (arith, few)), h w wide, k w wide)

  -- a node of one made, and those below it
  pub costs_below : (old mid new n m : ℕ) → mid ≡ counted old 1 → m ≡ 1 + n → Costs q mid new n → Costs q old new m
  costs_below old mid new n m step e h = λ w wide. omega (arith, step, split_cost w 1 n m e, h w wide)

-- ---- nodes in slots

-- a row, by its slots
pub costs_row : (q : Question) (i old new n m : ℕ) → IsNodeOf q i → sort_of (site q i) ≡ sort.Row → m ≡ 1 + n → CostsSlots q i 0 old new n → Costs q old new m
costs_row q i old new n m at row e h = λ w wide. omega (arith, slots_within q i at row w wide, split_cost w 1 n m e, h w wide)

pub members_row : (q : Question) (i old new n m : ℕ) → IsNodeOf q i → sort_of (site q i) ≡ sort.Row → m ≡ 1 + n → CostsWalk q i old new n → Costs q old new (3 * m)
members_row q i old new n m at row e h = λ w wide. omega (arith, slots_within q i at row w wide, split_cost w 3 (3 * n) (3 * m) (omega (arith, e)), h w wide)

module _ (q : Question) (i place : ℕ) where
  pub costs_slots : (old new n m : ℕ) → n ≤ m → Costs q old new n → CostsSlots q i place old new m
  costs_slots old new n m few h = λ w wide. omega (arith, cost_within w n m few, h w wide)

  pub costs_both_slots : (old mid new n m : ℕ) → n ≤ m → Costs q old mid n → CostsSlots q i place mid new (m - n) → CostsSlots q i place old new m
  costs_both_slots old mid new n m few h k = λ w wide. omega (arith, split_cost w n (m - n) m (omega (arith, few)), h w wide, k w wide)

  -- the first member, and those after it
  module _ (old mid new : ℕ) where
    pub costs_first : (a n m : ℕ) → mid ≡ counted old 1 → m ≡ a + n → Costs q mid new a → CostsSlots q i place old new m
    costs_first a n m step both h = λ w wide. omega (arith, step, split_cost w a n m both, h w wide)

    pub costs_first_rest : (end a n m : ℕ) → mid ≡ counted old 1 → m ≡ a + n → length (slots_from q i place) ≡ 1 + length (slots_from q i (place + 1)) → Costs q mid new a → CostsSlots q i (place + 1) new end n → CostsSlots q i place old end m
    costs_first_rest end a n m step both fewer h k = λ w wide. omega (arith, step, split_cost w a n m both, fewer, h w wide, k w wide)

  -- with the slot before those
  pub costs_wider : (old mid n : ℕ) → mid ≡ counted old 1 → length (slots_from q i place) ≡ 1 + length (slots_from q i (place + 1)) → (new : ℕ) → CostsSlots q i (place + 1) mid new n → CostsSlots q i place old new n
  costs_wider old mid n step fewer new h = λ w wide. omega (arith, h w wide, step, fewer)

pub parts_kept : (made : NextParts) (q : Question) (old mid new n : ℕ) → Costs q old mid n → KeepsMeter made mid new → CostsLastParts made q old new n
parts_kept (Made d) q old mid new n h k = tt
parts_kept (Last r) q old mid new n h k = λ w wide. omega (arith, h w wide, k)

module _ (q : Question) (i : ℕ) where
  -- the slots that were walked, and the one that moves
  pub walk_cost : (old mid new place room n m : ℕ) → n + room ≡ m → ((w : ℕ) → IsWidth q w → mid + place ≤ old + length (slots_from q i 0) + (w + 1) * (2 * room)) → CostsFrom q i mid new (3 * n + room) → CostsWalk q i old new m
  walk_cost old mid new place room n m both walked h = λ w wide. omega (arith, split_cost w (2 * room) (3 * n + room) (3 * m) (omega (arith, both)), walked w wide, h w wide)

-- where there is no next one, so many nodes are removed
abbrev pub Removes : ℕ → NextParts → Type 0
Removes n (Made d) = Unit {0}
Removes n (Last m) = n ≡ m

-- all that is asked of slots is removed from them
pub removes_all : (made : NextParts) (P : Pools) (ss : List Slot) (d : Demand) (gs : List (Option Data)) (new : List Member) → AreNextMembers made P ss d gs new → Removes d.room made
removes_all (Made n) P ss d gs new h = tt
removes_all (Last m) P ss d gs new h = h.1

-- no next one is found at a slot, of which the front took so many steps
module _ (q : Question) (t : RowSlot) (here : IsRowSlot q t) where
  pub last_removed : (made : NextParts) (v : Data) (room old front after : ℕ) → front ≤ old + 1 + t.place → Removes (room + node_count v) made → CostsLastParts made q front after (2 * node_count v - 1) → CostsLastFrom made q room old after
  last_removed (Made d) v room old front after walked removes cost = tt
  last_removed (Last m) v room old front after walked removes cost = λ w wide.
      let n = node_count v in
      omega (arith, walked, here.within, slots_within q t.node here.node here.row w wide, split_cost w (2 * room) (2 * n) (2 * m) (omega (arith, removes)), split_cost w (2 * n - 1) 1 (2 * n) (omega (arith, some_nodes v)), cost w wide)

-- ---- where there may be no next one

pub costs_last : (m : answer.NextTree) (q : Question) (old new n : ℕ) → Costs q old new (2 * n - 1) → CostsLast m q old new n
costs_last (tree_next.To t d) q old new n h = tt
costs_last (tree_next.Last k) q old new n h = h
