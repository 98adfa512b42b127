use Rattle.std.proofs.Common.{Bool, get_or, sym, ap, ◌∙◌, subst}
use Rattle.jtree.specs.Data.{AreTrees, AreMembers}
use Rattle.jtree.specs.Data as tree
use Rattle.jtree.specs.View.{items_of, members_of}
use Rattle.cluster.specs.Keywords.{is_embedded}
use Rattle.cluster.specs.Pruned.{items_keep, kept_members, pruned_members, pruned_items}
use Rattle.cluster.specs.Internal.Trees.{schema_of, pruned_tree, pruned_member}
use Rattle.cluster.proofs.TreeLemmas.{mapped_more}
use Rattle.cluster.proofs.PrunedTrees.{items_pruned, members_pruned, members_kept, sorted_kept, sorted_pruned, trees_pruned}
use Rattle.cluster.proofs.pruning.+prune.Goals as goal

pub prune_items-loop-item-preserved : goal.prune_items-loop-item-preserved
prune_items-loop-item-preserved t c =
    let l = c.loop-item in
    let s = schema_of c.args.schema in
    mapped_more (pruned_tree (is_embedded s) c.args.keeps s) c.deref_mut-item-items.result.now l.item-items l.item-index c.item-item.result _ c.loop-item-test.true l.invariant c.item-item.is
    (c.prune_tree.ensures ∙ ap (λ (b : Bool). pruned_tree b c.args.keeps s (get_or l.item-items l.item-index c.item-item.result)) c.is_set.ensures)

pub prune_members-loop-member-preserved : goal.prune_members-loop-member-preserved
prune_members-loop-member-preserved t c =
    let l = c.loop-member in
    mapped_more (pruned_member c.args.is_resource (schema_of c.args.schema)) c.deref_mut-member-items.result.now l.member-items l.member-index c.member-item.result _ c.loop-member-test.true l.invariant c.member-item.is c.prune_member.ensures

-- ---- what is pruned is a tree, and is what the schema makes of it

pub prune_list-invariant_of-items : goal.prune_list-invariant_of-items
prune_list-invariant_of-items t c =
    let below = schema_of c.keyword.result in
    subst AreTrees (sym (ap items_of c.prune_items.ensures ∙ items_pruned c.items_keep.result below c.items.inside.items.items)) (trees_pruned c.items_keep.result below _ c.items.invariant)

pub prune_list-returns : goal.prune_list-returns
prune_list-returns t c =
    let below = schema_of c.keyword.result in
    let items = ap items_of c.prune_items.ensures ∙ items_pruned c.items_keep.result below c.items.inside.items.items ∙ ap (pruned_items c.items_keep.result below) c.items.view_is in
    ap tree.list (items ∙ ap (λ b. pruned_items b below c.args.items.now) c.items_keep.ensures ∙ ap (λ s. pruned_items (items_keep c.args.keeps (schema_of c.args.schema)) s c.args.items.now) c.keyword.ensures)

pub prune_object-invariant_of-members : goal.prune_object-invariant_of-members
prune_object-invariant_of-members t c =
    let r = c.args.is_resource in
    let s = schema_of c.args.schema in
    subst AreMembers (sym (ap members_of c.drop_undeclared.ensures ∙ members_kept r s c.prune_members.new.members.items ∙ ap (λ ms. kept_members r s (members_of ms)) c.prune_members.ensures ∙ ap (kept_members r s) (members_pruned r s c.members.inside.members.items)))
    (sorted_kept r s _ (sorted_pruned r s _ c.members.invariant))

pub prune_object-invariant_of-members-else-not-keeps : goal.prune_object-invariant_of-members-else-not-keeps
prune_object-invariant_of-members-else-not-keeps t c =
    let r = c.args.is_resource in
    let s = schema_of c.args.schema in
    subst AreMembers (sym (ap members_of c.prune_members.ensures ∙ members_pruned r s c.members.inside.members.items)) (sorted_pruned r s _ c.members.invariant)

pub prune_object-returns-then-not-keeps : goal.prune_object-returns-then-not-keeps
prune_object-returns-then-not-keeps t c =
    let r = c.args.is_resource in
    let s = schema_of c.args.schema in
    let members = ap members_of c.drop_undeclared.ensures ∙ members_kept r s c.prune_members.new.members.items ∙ ap (λ ms. kept_members r s (members_of ms)) c.prune_members.ensures ∙ ap (kept_members r s) (members_pruned r s c.members.inside.members.items ∙ ap (pruned_members r s) c.members.view_is) in
    let cuts = c.if-not-keeps.true in
    rw cuts (ap tree.object members)

pub prune_object-returns-else-not-keeps : goal.prune_object-returns-else-not-keeps
prune_object-returns-else-not-keeps t c =
    let r = c.args.is_resource in
    let s = schema_of c.args.schema in
    let members = ap members_of c.prune_members.ensures ∙ members_pruned r s c.members.inside.members.items ∙ ap (pruned_members r s) c.members.view_is in
    rw c.if-not-keeps.false (ap tree.object members)
