use Rattle.std.proofs.Common.{◌≡◌, ◌++◌, drop}
use Rattle.jtree.specs.View.{items_of, members_of}
use Rattle.judge.specs.Asked.{keyword_closure, item_closure, schemas_of}
use Rattle.judge.proofs.finding.+schemas.Given as goal

abbrev pub invariant-add_branches-loop-member : goal.invariant-add_branches-loop-member
invariant-add_branches-loop-member l =
    schemas_of l.schemas.items ++ keyword_closure (members_of (drop l.member-index l.member-items)) ≡ schemas_of l.initial.schemas.items ++ keyword_closure l.keywords

abbrev pub invariant-add_items-loop-item : goal.invariant-add_items-loop-item
invariant-add_items-loop-item l =
    schemas_of l.schemas.items ++ item_closure (items_of (drop l.item-index l.item-items)) ≡ schemas_of l.initial.schemas.items ++ item_closure l.items
