use Rattle.std.proofs.Common.{◌≡◌, drop}
use Rattle.std.specs.Prelude.{map}
use Rattle.jtree.specs.View.{items_of, members_of}
use Rattle.schema.specs.Internal.Named.{item_names, member_names, other_of}
use Rattle.schema.proofs.rules.junctors.+names.Given as goal

-- the first that is not known is the first of what is left
abbrev pub invariant-other_in_branches-loop-branch : goal.invariant-other_in_branches-loop-branch
invariant-other_in_branches-loop-branch l =
    other_of (map (λ w. w.now) l.known) (item_names (items_of (drop l.branch-index l.branch-items))) ≡ other_of (map (λ w. w.now) l.known) (item_names (items_of l.branch-items))

abbrev pub invariant-other_name-loop-member : goal.invariant-other_name-loop-member
invariant-other_name-loop-member l =
    other_of (map (λ w. w.now) l.known) (member_names l.in_branch (members_of (drop l.member-index l.member-items)))
    ≡ other_of (map (λ w. w.now) l.known) (member_names l.in_branch (members_of l.member-items))
