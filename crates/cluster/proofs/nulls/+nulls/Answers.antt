use Rattle.std.proofs.Common.{false, sym, ap, ◌∙◌, subst}
use Rattle.jtree.specs.Data.{AreTrees, AreMembers}
use Rattle.jtree.specs.Data as tree
use Rattle.jtree.specs.View.{items_of, members_of}
use Rattle.cluster.specs.WithoutNulls.{members_left, members_without, items_without}
use Rattle.cluster.specs.Internal.Trees.{schema_of, tree_without, member_without}
use Rattle.cluster.proofs.TreeLemmas.{mapped_more}
use Rattle.cluster.proofs.NullTrees.{trees_without, list_without, list_left, sorted_left, sorted_without, are_trees_without}
use Rattle.cluster.proofs.nulls.+nulls.Goals as goal

pub drop_in_items-loop-item-preserved : goal.drop_in_items-loop-item-preserved
drop_in_items-loop-item-preserved t c =
    let l = c.loop-item in
    mapped_more (tree_without false (schema_of c.args.schema)) c.deref_mut-item-items.result.now l.item-items l.item-index c.item-item.result _ c.loop-item-test.true l.invariant c.item-item.is c.drop_in_tree.ensures

pub drop_in_members-loop-member-preserved : goal.drop_in_members-loop-member-preserved
drop_in_members-loop-member-preserved t c =
    let l = c.loop-member in
    mapped_more (member_without c.args.is_resource (schema_of c.args.schema)) c.deref_mut-member-items.result.now l.member-items l.member-index c.member-item.result _ c.loop-member-test.true l.invariant c.member-item.is c.drop_in_member.ensures

-- ---- what is left is a tree, and is what the schema leaves of it

pub drop_in_list-invariant_of-items : goal.drop_in_list-invariant_of-items
drop_in_list-invariant_of-items t c =
    let below = schema_of c.keyword.result in
    subst AreTrees (sym (ap items_of c.drop_in_items.ensures ∙ trees_without below c.items.inside.items.items)) (are_trees_without below _ c.items.invariant)

pub drop_in_list-returns : goal.drop_in_list-returns
drop_in_list-returns t c =
    let below = schema_of c.keyword.result in
    let items = ap items_of c.drop_in_items.ensures ∙ trees_without below c.items.inside.items.items ∙ ap (items_without below) c.items.view_is in
    ap tree.list (items ∙ ap (λ s. items_without s c.args.items.now) c.keyword.ensures)

pub drop_in_object-invariant_of-members : goal.drop_in_object-invariant_of-members
drop_in_object-invariant_of-members t c =
    let r = c.args.is_resource in
    let s = schema_of c.args.schema in
    subst AreMembers (sym (ap members_of c.drop_members.ensures ∙ list_left r s c.drop_in_members.new.members.items ∙ ap (λ ms. members_left r s (members_of ms)) c.drop_in_members.ensures ∙ ap (members_left r s) (list_without r s c.members.inside.members.items)))
    (sorted_left r s _ (sorted_without r s _ c.members.invariant))

pub drop_in_object-returns : goal.drop_in_object-returns
drop_in_object-returns t c =
    let r = c.args.is_resource in
    let s = schema_of c.args.schema in
    ap tree.object (ap members_of c.drop_members.ensures ∙ list_left r s c.drop_in_members.new.members.items ∙ ap (λ ms. members_left r s (members_of ms)) c.drop_in_members.ensures ∙ ap (members_left r s) (list_without r s c.members.inside.members.items ∙ ap (members_without r s) c.members.view_is))
