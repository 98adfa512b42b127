use Rattle.std.proofs.Common.{◌≡◌, max, drop}
use Rattle.jtree.specs.Data.{items_depth, members_depth}
use Rattle.jtree.specs.View.{items_of, members_of}
use Rattle.suggest.proofs.judging.+shallow.Given as goal

-- what is left is as deep as all, or no deeper than the most
abbrev pub invariant-are_shallow-loop-item : goal.invariant-are_shallow-loop-item
invariant-are_shallow-loop-item l = max (items_depth (items_of (drop l.item-index l.item-items))) l.most ≡ max (items_depth l.items) l.most

abbrev pub invariant-are_values_shallow-loop-member : goal.invariant-are_values_shallow-loop-member
invariant-are_values_shallow-loop-member l = max (members_depth (members_of (drop l.member-index l.member-items))) l.most ≡ max (members_depth l.members) l.most
