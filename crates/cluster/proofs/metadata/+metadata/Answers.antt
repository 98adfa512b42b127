use Rattle.std.proofs.Common.{Bool, get_or, sym, ap, ◌∙◌, subst}
use Rattle.jtree.specs.Data.{AreTrees, AreMembers}
use Rattle.jtree.specs.Data as tree
use Rattle.jtree.specs.View.{items_of, members_of}
use Rattle.cluster.specs.Keywords.{is_embedded}
use Rattle.cluster.specs.Metadata.{members_with_meta, items_with_meta}
use Rattle.cluster.specs.Internal.Trees.{schema_of, tree_with_meta, member_with_meta}
use Rattle.cluster.proofs.TreeLemmas.{mapped_more}
use Rattle.cluster.proofs.MetaTrees.{items_meta, members_meta, sorted_meta, trees_meta}
use Rattle.cluster.proofs.metadata.+metadata.Goals as goal

pub prune_in_items-loop-item-preserved : goal.prune_in_items-loop-item-preserved
prune_in_items-loop-item-preserved t c =
    let l = c.loop-item in
    let s = schema_of c.args.schema in
    mapped_more (tree_with_meta (is_embedded s) s) c.deref_mut-item-items.result.now l.item-items l.item-index c.item-item.result _ c.loop-item-test.true l.invariant c.item-item.is
    (c.prune_in_tree.ensures ∙ ap (λ (b : Bool). tree_with_meta b s (get_or l.item-items l.item-index c.item-item.result)) c.is_set.ensures)

pub prune_in_members-loop-member-preserved : goal.prune_in_members-loop-member-preserved
prune_in_members-loop-member-preserved t c =
    let l = c.loop-member in
    mapped_more (member_with_meta c.args.is_resource (schema_of c.args.schema)) c.deref_mut-member-items.result.now l.member-items l.member-index c.member-item.result _ c.loop-member-test.true l.invariant c.member-item.is c.prune_in_member.ensures

pub prune_in_list-invariant_of-items : goal.prune_in_list-invariant_of-items
prune_in_list-invariant_of-items t c =
    let below = schema_of c.keyword.result in
    subst AreTrees (sym (ap items_of c.prune_in_items.ensures ∙ items_meta below c.items.inside.items.items)) (trees_meta below _ c.items.invariant)

pub prune_in_list-returns : goal.prune_in_list-returns
prune_in_list-returns t c =
    let below = schema_of c.keyword.result in
    let items = ap items_of c.prune_in_items.ensures ∙ items_meta below c.items.inside.items.items ∙ ap (items_with_meta below) c.items.view_is in
    ap tree.list (items ∙ ap (λ s. items_with_meta s c.args.items.now) c.keyword.ensures)

pub prune_in_object-invariant_of-members : goal.prune_in_object-invariant_of-members
prune_in_object-invariant_of-members t c =
    let r = c.args.is_resource in
    let s = schema_of c.args.schema in
    subst AreMembers (sym (ap members_of c.prune_in_members.ensures ∙ members_meta r s c.members.inside.members.items)) (sorted_meta r s _ c.members.invariant)

pub prune_in_object-returns : goal.prune_in_object-returns
prune_in_object-returns t c =
    let r = c.args.is_resource in
    let s = schema_of c.args.schema in
    ap tree.object (ap members_of c.prune_in_members.ensures ∙ members_meta r s c.members.inside.members.items ∙ ap (members_with_meta r s) c.members.view_is)
