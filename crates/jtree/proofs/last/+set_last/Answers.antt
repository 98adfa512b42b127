use Rattle.std.proofs.Common.{refl, arith}
use Rattle.std.proofs.lemmas.Result.{IfOk-weaker, on_ok_weaker}
use Rattle.jtree.specs.View.{data_of}
use Rattle.jtree.proofs.LastNode.{item_put_last, member_put_last, item_depth_last, member_depth_last, list_put, object_put, items_put, members_put}
use Rattle.jtree.proofs.last.+set_last.Goals as goal

pub set_last_item-returns-in-Some-clause-ok : goal.set_last_item-returns-in-Some-clause-ok
set_last_item-returns-in-Some-clause-ok t c =
    on_ok_weaker _ (item_put_last c.args.items.now.items _ _ _ (data_of c.args.value.now) c.args.items.now.ok.0 c.in-Some.ensures.value) c.set_last_node.ensures.ok

pub set_last_item-returns-in-Some-clause-depth : goal.set_last_item-returns-in-Some-clause-depth
set_last_item-returns-in-Some-clause-depth t c =
    let deeper = item_depth_last c.args.items.now.items _ _ c.args.items.now.ok.0 (omega (arith, c.in-Some.ensures.variant.0 refl)) c.in-Some.ensures.value in
    IfOk-weaker c.set_last_node.result _ _ (λ depth is. omega (arith, c.saturating_add.ensures, is, deeper)) c.set_last_node.ensures.depth

pub set_last_member-returns-in-Some-clause-ok : goal.set_last_member-returns-in-Some-clause-ok
set_last_member-returns-in-Some-clause-ok t c =
    on_ok_weaker _ (member_put_last c.args.members.now.items _ _ c.in-Some.member.now (data_of c.args.value.now) c.args.members.now.ok.0 c.in-Some.ensures.value) c.set_last_node.ensures.ok

pub set_last_member-returns-in-Some-clause-depth : goal.set_last_member-returns-in-Some-clause-depth
set_last_member-returns-in-Some-clause-depth t c =
    let deeper = member_depth_last c.args.members.now.items _ _ c.args.members.now.ok.0 (omega (arith, c.in-Some.ensures.variant.0 refl)) c.in-Some.ensures.value in
    IfOk-weaker c.set_last_node.result _ _ (λ depth is. omega (arith, c.saturating_add.ensures, is, deeper)) c.set_last_node.ensures.depth

pub set_last_node-invariant_of-list : goal.set_last_node-invariant_of-list
set_last_node-invariant_of-list t c = items_put _ _ _ (data_of c.args.value.now) c.list.invariant c.requires c.set_last_item.ensures.ok c.set_last_item.ensures.err

pub set_last_node-invariant_of-object : goal.set_last_node-invariant_of-object
set_last_node-invariant_of-object t c = members_put _ _ _ (data_of c.args.value.now) c.object.invariant c.requires c.set_last_member.ensures.ok c.set_last_member.ensures.err

pub set_last_node-returns-in-List-clause-ok : goal.set_last_node-returns-in-List-clause-ok
set_last_node-returns-in-List-clause-ok t c =
    let items = c.list.inside.items in
    rw (c.in-List.is, ← c.list.view_is)
    (list_put c.set_last_item.result items.items items.len _ (data_of c.args.value.now) items.ok.0 c.if-not-is_empty.ensures c.set_last_item.ensures.ok)

pub set_last_node-returns-in-Object-clause-ok : goal.set_last_node-returns-in-Object-clause-ok
set_last_node-returns-in-Object-clause-ok t c =
    let members = c.object.inside.members in
    rw (c.in-Object.is, ← c.object.view_is)
    (object_put c.set_last_member.result members.items members.len _ (data_of c.args.value.now) members.ok.0 c.if-not-is_empty-2.ensures c.set_last_member.ensures.ok)
