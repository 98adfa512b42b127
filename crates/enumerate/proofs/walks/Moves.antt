-- What a move answers, in other words.
use Rattle.std.proofs.Common.{◌≡◌, List, Some, None, subst}
use Rattle.jtree.specs.Data.{Data}
use Rattle.jtree.specs.Order.{tree_cmp}
use Rattle.jtree.specs.Nodes.{node_count}
use Rattle.jtree.specs.View.{data_of, items_of}
use Rattle.jtree.specs.declared.value.Tree.{Tree}
use Rattle.plan.specs.Samples.Question.{Question}
use Rattle.enumerate.specs.Internal.Lists.{IsUnusedItem}
use Rattle.enumerate.specs.Internal.Moves.{IsNextTree}
use Rattle.enumerate.specs.declared.list.ListNode.{ListNode}
use Rattle.enumerate.specs.declared.walk.NextTree.{NextTree}
use Rattle.enumerate.specs.declared.walk.NextTree.TheVariants.{To, Last}
use Rattle.enumerate.proofs.walks.Least.{next_same}

pub moved_same : (C D : Data → Type 0) (old : Data) (m : NextTree) → ((u : Data) → C u → D u) → ((u : Data) → D u → C u) → IsNextTree C old m → IsNextTree D old m
moved_same C D old (To t n) there back h = (next_same tree_cmp C D old (Some (data_of t)) there back h.0, h.1)
moved_same C D old (Last n) there back h = (next_same tree_cmp C D old None there back h.0, h.1)

-- the next one of an item after others, or that there is none
abbrev pub MovesItem : Question → ListNode → Tree → List Tree → NextTree → Type 0
MovesItem q l one front m = IsNextTree (IsUnusedItem q l.node l.child (node_count (data_of one)) (items_of front)) (data_of one) m

-- after the same items
pub item_moved : (q : Question) (l : ListNode) (one : Tree) (slice front : List Tree) (m n : NextTree) → slice ≡ front → m ≡ n → MovesItem q l one slice m → MovesItem q l one front n
item_moved q l one slice front m n same is h = subst (λ ts. MovesItem q l one ts n) same (subst (MovesItem q l one slice) is h)
