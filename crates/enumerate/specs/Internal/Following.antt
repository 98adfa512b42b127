-- Values that make the next trees, one after the other, in the place of the last node.
use Rattle.enumerate.specs.declared.row.Ahead.{Ahead}
use Rattle.enumerate.specs.Internal.Candidates.{used_rows}
use Rattle.plan.specs.Samples.Part.{IsPart}
use Rattle.std.specs.Prelude.{◌≡◌, ◌⊎◌, ℕ, zero, suc, List, [], ◌∷◌, Option, Some, None}
use Rattle.jtree.specs.Data.{Data, Items, no_items, item}
use Rattle.jtree.specs.Last.{with_last}
use Rattle.jtree.specs.Nodes.{node_count}
use Rattle.jtree.specs.Order.{tree_cmp}
use Rattle.jtree.specs.View.{data_of, members_of}
use Rattle.jtree.specs.declared.value.Member.{Member}
use Rattle.plan.specs.Pools.Pools.{Pools}
use Rattle.plan.specs.Samples.Sites.{Slot}
use Rattle.plan.specs.Samples.Sizes.{AreFillings, filled_nodes}
use Rattle.plan.specs.Samples.RuleOfParts.{members_in}
use Rattle.plan.specs.Samples.NoDeadEnd.{items_then}
use Rattle.plan.specs.Samples.Question.{Question}
use Rattle.enumerate.specs.Internal.Rows.{still_used, slots_at, IsValue, IsRowSlot, slot_there, IsValueAt, IsOpenAfter}
use Rattle.enumerate.specs.declared.list.ListNode.{ListNode}
use Rattle.enumerate.specs.declared.row.RowSlot.{RowSlot}
use Rattle.enumerate.specs.Least.{IsLeast, IsNext}
use Rattle.enumerate.specs.Internal.Lists.{IsUnusedItem, IsListNode, CanFollow}
use Rattle.enumerate.specs.declared.walk.NextTree.{NextTree}
use Rattle.enumerate.specs.declared.walk.NextTree.TheVariants as tree_next
use Rattle.enumerate.specs.declared.walk.NextParts.{NextParts}
use Rattle.enumerate.specs.declared.walk.NextParts.TheVariants as parts

-- the first value makes the next one of those for which C holds past the tree, and the others follow on that
abbrev pub Follow : (Data → Type 0) → Data → List Data → Type 0
Follow C v [] = Unit {0}
Follow C v (c ∷ cs) = IsNext tree_cmp C v (Some (with_last v c)) × Follow C (with_last v c) cs

-- The first value is the last node, and the others follow on it; or there is none.
abbrev pub Continue : (Data → Type 0) → Data → List Data → Type 0
Continue C v [] = Unit {0}
Continue C v (u ∷ cs) = (with_last v u ≡ v) × Follow C v cs

-- the values are those for which C holds, from one of them on: each is the next one
abbrev pub InTurn : (Data → Type 0) → Data → List Data → Type 0
InTurn C v [] = Unit {0}
InTurn C v (c ∷ cs) = IsNext tree_cmp C v (Some c) × InTurn C c cs

-- some of those for which C holds, from the first one on; none where there are none
abbrev pub AreChoices : (Data → Type 0) → List Data → Type 0
AreChoices C [] = (u : Data) → C u → ⊥
AreChoices C (v ∷ cs) = IsLeast tree_cmp C v × InTurn C v cs

-- where there is a next tree, these values continue it
abbrev pub ContinueNext : (Data → Type 0) → NextTree → List Data → Type 0
ContinueNext C (tree_next.To t n) cs = Continue C (data_of t) cs
ContinueNext C (tree_next.Last n) cs = Unit {0}

-- The last value of a row is this one, in this slot with those after it; these used rows have the same values under all keys so far.
abbrev pub EndsAt : List Slot → List Data → List (Option Data) → ℕ → Slot → List Slot → List Data → Data → Type 0
EndsAt (s ∷ ss) used (Some u ∷ gs) zero here after rows v = (s ≡ here) × (ss ≡ after) × (used ≡ rows) × (u ≡ v) × (filled_nodes gs ≡ 0)
EndsAt (s ∷ ss) used (Some u ∷ gs) (suc place) here after rows v = EndsAt ss (still_used s u used) gs place here after rows v
EndsAt (s ∷ ss) used (None ∷ gs) (suc place) here after rows v = EndsAt ss used gs place here after rows v
EndsAt _ used _ place here after rows v = ⊥

-- these values continue the last one of the row
pub record ContinueRow (P : Pools) (ss : List Slot) (used : List Data) (gs : List (Option Data)) (cs : List Data) : Type 0 where
  pub place : ℕ
  pub here : Slot
  pub after : List Slot
  pub rows : List Data
  pub value : Data
  pub ends : EndsAt ss used gs place here after rows value
  pub continue : Continue (IsValue P here after rows (node_count value)) value cs

-- there are none, or these values continue the last one of the row
abbrev pub MayContinue : Pools → List Slot → List Data → List (Option Data) → List Data → Type 0
MayContinue P ss used gs cs = (cs ≡ []) ⊎ ContinueRow P ss used gs cs

-- The members are in the slots, and these values continue the last one.
pub record MembersContinue (P : Pools) (ss : List Slot) (used : List Data) (members : List Member) (cs : List Data) : Type 0 where
  pub fillings : List (Option Data)
  pub are : members_of members ≡ members_in ss fillings
  pub fit : AreFillings P ss fillings
  pub continue : MayContinue P ss used fillings cs

-- the same of members that were moved or put there
abbrev pub GrownContinue : NextParts → Pools → List Slot → List Data → List Member → List Data → Type 0
GrownContinue (parts.Made n) P ss used members cs = MembersContinue P ss used members cs
GrownContinue (parts.Last n) P ss used members cs = Unit {0}

-- the last item, with those before it, and values that continue it
pub record ContinueItem (q : Question) (i c : ℕ) (items : Items) (cs : List Data) : Type 0 where
  pub front : Items
  pub one : Data
  pub is : items ≡ items_then front (item one no_items)
  pub continue : Continue (IsUnusedItem q i c (node_count one) front) one cs

-- there are none, or these values continue the last item
abbrev pub ItemsContinue : Question → ℕ → ℕ → Items → List Data → Type 0
ItemsContinue q i c items cs = (cs ≡ []) ⊎ ContinueItem q i c items cs

-- the first items of a list, which these values continue, and after which items of so many nodes can follow
pub record IsBegun (q : Question) (l : ListNode) (room : ℕ) (items : Items) (cs : List Data) : Type 0 where
  pub list : IsListNode q l
  pub follow : CanFollow q l.node l.child room items
  pub following : ItemsContinue q l.node l.child items cs

abbrev pub GrownItemsContinue : NextParts → Question → ℕ → ℕ → Items → List Data → Type 0
GrownItemsContinue (parts.Made n) q i c items cs = ItemsContinue q i c items cs
GrownItemsContinue (parts.Last n) q i c items cs = Unit {0}

abbrev pub GrownContinueAt : NextParts → Question → RowSlot → List Data → List Member → List Data → Type 0
GrownContinueAt st q t used ms cs = GrownContinue st q.pools (slots_at q t) used ms cs

-- a member for a slot, which these values continue, and after which so much is ahead
pub record CanPut (q : Question) (t : RowSlot) (a : Ahead) (one : Member) (cs : List Data) : Type 0 where
  pub here : IsRowSlot q t
  pub name : one.name ≡ (slot_there q t).name
  pub part : IsPart q.pools (slot_there q t).site (data_of one.tree)
  pub following : Continue (IsValueAt q t (used_rows a.used) (node_count (data_of one.tree))) (data_of one.tree) cs
  pub ahead : IsOpenAfter q t (data_of one.tree) a
