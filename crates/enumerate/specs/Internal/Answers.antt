-- What the calls of a walk answer: what is found, the candidates that continue it, and what it takes, whatever is answered.
use Rattle.plan.specs.Samples.Sites.{Slot}
use Rattle.jtree.specs.Nodes.{node_count, members_count, items_count}
use Rattle.std.specs.Prelude.{◌↔◌, ◌+◌, ◌*◌, Bool, IsTrue, Result, IfOk, OnOk, List, ℕ, drop, length}
use Rattle.std.specs.Borrow.{Bor}
use Rattle.jtree.specs.Data.{Data}
use Rattle.jtree.specs.Order.{tree_cmp}
use Rattle.jtree.specs.View.{data_of, items_of, members_of}
use Rattle.jtree.specs.declared.value.Member.{Member}
use Rattle.jtree.specs.declared.value.Tree.{Tree}
use Rattle.plan.specs.Samples.Question.{Question}
use Rattle.enumerate.specs.Least.{IsLeast}
use Rattle.enumerate.specs.Internal.Candidates.{used_rows, stack_of}
use Rattle.enumerate.specs.Internal.Following.{Continue, ContinueNext, GrownContinue, GrownContinueAt, GrownItemsContinue, ItemsContinue, MembersContinue}
use Rattle.enumerate.specs.Internal.Lists.{AreGrown, AddsItems}
use Rattle.enumerate.specs.Internal.Moves.{IsNextTree, MovesMembers, MovesMember, AreNextItems}
use Rattle.enumerate.specs.Internal.Nodes.{Costs}
use Rattle.enumerate.specs.Internal.Rows.{slots_from, IsGrownAt, CostsAfter}
use Rattle.enumerate.specs.Internal.Steps.{KeepsMeter, CostsMembers, CostsMember, CostsItems}
use Rattle.enumerate.specs.Internal.Walks.{MovesSlot, AreLeft, CostsSlot}
use Rattle.enumerate.specs.declared.list.ListNode.{ListNode}
use Rattle.enumerate.specs.declared.row.RowSlot.{RowSlot}
use Rattle.enumerate.specs.declared.row.Ahead.{Ahead}
use Rattle.enumerate.specs.declared.row.Removed.{Removed}
use Rattle.enumerate.specs.declared.walk.NextTree.{NextTree}
use Rattle.enumerate.specs.declared.walk.NextParts.{NextParts}

-- the first of the trees for which C holds
pub record FindsFirst {E : Type 0} (r : Result Tree E) (C : Data → Type 0) (stack : List (Bor Tree)) (costs : Type 0) : Type 0 where
  pub ok : IfOk r (λ v. IsLeast tree_cmp C (data_of v))
  pub following : IfOk r (λ v. Continue C (data_of v) (stack_of stack))
  pub steps : costs

-- the next one after the old one; or there is none
pub record FindsNext {E : Type 0} (r : Result NextTree E) (C : Data → Type 0) (old : Data) (stack : List (Bor Tree)) (costs : Type 0) : Type 0 where
  pub ok : IfOk r (λ next. IsNextTree C old next)
  pub following : IfOk r (λ next. ContinueNext C next (stack_of stack))
  pub steps : costs

-- answers whether P holds
pub record Decides {E : Type 0} (r : Result Bool E) (P : Type 0) (costs : Type 0) : Type 0 where
  pub ok : IfOk r (λ is. IsTrue is ↔ P)
  pub steps : costs

-- the first items of so many nodes are added
pub record AddsFirstItems {T E : Type 0} (r : Result T E) (q : Question) (l : ListNode) (room : ℕ) (old new : List Tree) (stack : List (Bor Tree)) (before after : ℕ) : Type 0 where
  pub ok : OnOk r (AddsItems q l.node room old new)
  pub following : OnOk r (ItemsContinue q l.node l.child (items_of new) (stack_of stack))
  pub steps : Costs q before after room

-- the members that grow at a slot; where none do, no step is taken
pub record GrowsAt {E : Type 0} (r : Result NextParts E) (q : Question) (t : RowSlot) (a : Ahead) (from : ℕ) (old new : List Member) (stack : List (Bor Tree)) (before after : ℕ) : Type 0 where
  pub ok : IfOk r (λ next. IsGrownAt next q t a from old new)
  pub following : IfOk r (λ next. GrownContinueAt next q t (used_rows a.used) (drop (length old) new) (stack_of stack))
  pub steps : CostsAfter q t before after a.room
  pub last : IfOk r (λ next. KeepsMeter next before after)

-- the items that grow; where none do, no step is taken
pub record ItemsGrow {E : Type 0} (r : Result NextParts E) (q : Question) (l : ListNode) (room from : ℕ) (old new : List Tree) (stack : List (Bor Tree)) (before after : ℕ) : Type 0 where
  pub ok : IfOk r (λ next. AreGrown next q l.node l.child room from old new)
  pub following : IfOk r (λ next. GrownItemsContinue next q l.node l.child (items_of new) (stack_of stack))
  pub steps : Costs q before after room
  pub last : IfOk r (λ next. KeepsMeter next before after)

-- a move at a slot, where it was walked up to it before
pub record MovesAt {E : Type 0} (r : Result NextParts E) (q : Question) (t : RowSlot) (before : Removed) (used : List Data) (old : List Member) (after : Removed) (new : List Member) (stack : List (Bor Tree)) (earlier later m : ℕ) : Type 0 where
  pub ok : IfOk r (λ next. MovesSlot next q t before used old after new)
  pub following : IfOk r (λ next. GrownContinue next q.pools (slots_from q t.node 0) used new (stack_of stack))
  pub steps : CostsSlot r q t.node before.room earlier later m

-- with steps for three times the members, and for what was removed
abbrev pub MovesMembersAt : {E : Type 0} → Result NextParts E → Question → RowSlot → Removed → List Data → List Member → Removed → List Member → List (Bor Tree) → ℕ → ℕ → Type 0
MovesMembersAt r q t before used old after new stack earlier later = MovesAt r q t before used old after new stack earlier later (3 * members_count (members_of old) + before.room)

-- a move of all members of a row
pub record MovesRow {E : Type 0} (r : Result NextParts E) (q : Question) (i : ℕ) (rows : List Data) (old new : List Member) (stack : List (Bor Tree)) (before after : ℕ) : Type 0 where
  pub ok : IfOk r (λ next. MovesMembers next q i rows old new)
  pub following : IfOk r (λ next. GrownContinue next q.pools (slots_from q i 0) rows new (stack_of stack))
  pub steps : CostsMembers r q i before after (members_count (members_of old))

-- a move of a member that was removed
pub record MovesRemoved {E : Type 0} (r : Result NextParts E) (q : Question) (t : RowSlot) (a : Ahead) (one : Member) (old new : List Member) (stack : List (Bor Tree)) (before after : ℕ) : Type 0 where
  pub ok : IfOk r (λ next. MovesMember next q t a one old new)
  pub left : IfOk r (λ next. AreLeft next old new)
  pub following : IfOk r (λ next. GrownContinueAt next q t (used_rows a.used) (drop a.before.count new) (stack_of stack))
  pub steps : CostsMember r q t a.room before after (node_count (data_of one.tree))

-- a move of the items of a list
pub record MovesItems {E : Type 0} (r : Result NextParts E) (q : Question) (l : ListNode) (old new : List Tree) (stack : List (Bor Tree)) (before after : ℕ) : Type 0 where
  pub ok : IfOk r (λ next. AreNextItems next q l.node (items_of old) (items_of new))
  pub following : IfOk r (λ next. GrownItemsContinue next q l.node l.child (items_of new) (stack_of stack))
  pub steps : CostsItems r q before after (items_count (items_of old))

-- members are added, which are in these slots
pub record AddsMembers {T E : Type 0} (r : Result T E) (q : Question) (added : Type 0) (ss : List Slot) (rows : List Data) (members : List Member) (stack : List (Bor Tree)) (costs : Type 0) : Type 0 where
  pub ok : OnOk r added
  pub following : OnOk r (MembersContinue q.pools ss rows members (stack_of stack))
  pub steps : costs
