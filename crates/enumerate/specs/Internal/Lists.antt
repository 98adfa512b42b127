-- What can be in a list after the items that are there.
use Rattle.std.specs.Prelude.{◌≡◌, ℕ, ◌+◌, ◌≤◌, ◌<◌, ◌-◌, ◌++◌, ◌∷◌, [], List, length, true, false, Some}
use Rattle.jtree.specs.Data.{Data, Items}
use Rattle.jtree.specs.Data as tree
use Rattle.jtree.specs.Nodes.{items_count}
use Rattle.jtree.specs.Order.{tree_cmp, items_cmp}
use Rattle.jtree.specs.View.{data_of, items_of}
use Rattle.jtree.specs.declared.value.Tree.{Tree}
use Rattle.schema.specs.Rules.Keywords.{any_item}
use Rattle.stored.specs.Objects.Fault as fault
use Rattle.stored.specs.Objects.StoredByParts.{are_apart}
use Rattle.plan.specs.Sets.{IsLeastFrom, IsEmptyFrom}
use Rattle.plan.specs.Samples.Part.{IsPart}
use Rattle.plan.specs.Samples.Sites.{item_site}
use Rattle.plan.specs.Samples.Sizes.{HasMore}
use Rattle.plan.specs.Samples.RuleOfParts.{AreParts, alike_at}
use Rattle.plan.specs.Samples.NoDeadEnd.{items_then}
use Rattle.plan.specs.Samples.Question.{Question}
use Rattle.enumerate.specs.Least.{IsLeast}
use Rattle.enumerate.specs.declared.walk.NextParts.{NextParts}
use Rattle.enumerate.specs.declared.walk.NextParts.TheVariants.{Made, Last}
use Rattle.enumerate.specs.declared.list.ListNode.{ListNode}
use Rattle.enumerate.specs.Internal.Nodes.{site, IsNodeOf, IsPartOf, HasSizeAt, IsSplit}

-- items of m nodes that make a part with those before them
pub record AreItems (q : Question) (i m : ℕ) (used ds : Items) : Type 0 where
  pub part : IsPart q.pools (site q i) (tree.list (items_then used ds))
  pub nodes_are : items_count ds ≡ m

-- a node and that of its items
pub record IsListNode (q : Question) (l : ListNode) : Type 0 where
  pub node : IsNodeOf q l.node
  pub child : l.child < l.node

-- parts of the node c, no two alike, that may be the first items of a list
pub record AreFirst (q : Question) (i c : ℕ) (used : Items) : Type 0 where
  pub item : item_site q.pools (site q i) ≡ Some (site q c)
  pub are : AreParts q.pools (site q c) used
  pub apart : are_apart (alike_at (site q i)) used ≡ true

-- so many nodes may follow after the first items of a list
pub record CanGrow (q : Question) (l : ListNode) (items : Items) (room : ℕ) : Type 0 where
  pub list : IsListNode q l
  pub first : AreFirst q l.node l.child items
  pub within : 1 + items_count items + room ≤ q.limit

-- m nodes can follow
pub record CanFollow (q : Question) (i c m : ℕ) (used : Items) : Type 0 where
  pub first : AreFirst q i c used
  pub more : HasMore q.pools q.limit (site q i) (fault.items_count used) m
  pub within : 1 + items_count used + m ≤ q.limit

-- a part of so many nodes that is alike none of the items
pub record IsUnusedItem (q : Question) (i c n : ℕ) (used : Items) (v : Data) : Type 0 where
  pub part : IsPartOf q c n v
  pub unused : any_item (λ u. alike_at (site q i) u v) used ≡ false

-- the first items of m nodes come after those that were there
pub record AddsItems (q : Question) (i m : ℕ) (old new : List Tree) : Type 0 where
  pub added : List Tree
  pub is : new ≡ old ++ added
  pub least : IsLeast items_cmp (AreItems q i m (items_of old)) (items_of added)

-- a size for an item that leaves those after it the rest of m nodes
abbrev pub FitsItem : Question → ℕ → ℕ → ℕ → ℕ → ℕ → Type 0
FitsItem q i c t m n = IsSplit (HasSizeAt q c) (HasMore q.pools q.limit (site q i) (t + 1)) m n

-- after the items that were there comes the first unused item of the least size from `from` on, and then the first items after it
pub record GrowsItems (q : Question) (i c m from : ℕ) (old new : List Tree) : Type 0 where
  pub size : ℕ
  pub one : Tree
  pub least : IsLeastFrom (FitsItem q i c (length old) m) from size
  pub first : IsLeast tree_cmp (IsUnusedItem q i c size (items_of old)) (data_of one)
  pub rest : AddsItems q i (m - size) (old ++ one ∷ []) new

abbrev pub AreGrown : NextParts → Question → ℕ → ℕ → ℕ → ℕ → List Tree → List Tree → Type 0
AreGrown (Made d) q i c m from old new = GrowsItems q i c m from old new × (d ≡ 0)
AreGrown (Last n) q i c m from old new = (new ≡ old) × IsEmptyFrom (FitsItem q i c (length old) m) from × (n ≡ m)
