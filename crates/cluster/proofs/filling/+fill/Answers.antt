use Rattle.std.proofs.Common.{◌≡◌, arith, Some, None, sym, ap, ◌∙◌, subst}
use Rattle.std.specs.Prelude.{IfOk}
use Rattle.jtree.specs.Data.{Data}
use Rattle.jtree.specs.Data as tree
use Rattle.jtree.specs.View.{data_of}
use Rattle.cluster.specs.Keywords.{member_schema, item_schema}
use Rattle.cluster.specs.Filled.{filled, filled_items}
use Rattle.cluster.specs.Internal.Trees.{schema_of}
use Rattle.cluster.proofs.TreeLemmas.{no_more}
use Rattle.cluster.proofs.FilledTrees.{schema_depth, items_depth_less, filled_schema, filled_other, items_none}
use Rattle.cluster.proofs.FilledWalks.{items_more, items_end, members_more, members_end, members_sorted}
use Rattle.cluster.proofs.filling.+fill.Goals as goal

pub fill-returns-then-is_schema : goal.fill-returns-then-is_schema
fill-returns-then-is_schema t c =
    let s = data_of c.args.schema.now in
    subst (λ (d : Data). IfOk c.fill_by.result (λ w. data_of w ≡ d)) (sym (filled_schema s (data_of c.args.value) (sym c.is_schema.ensures ∙ c.if-is_schema.true))) c.fill_by.ensures

pub fill-returns : goal.fill-returns
fill-returns t c = sym (filled_other (data_of c.args.schema.now) (data_of c.args.value) (sym c.is_schema.ensures ∙ c.if-is_schema.false))

pub fill_list-fill_items-requires : goal.fill_list-fill_items-requires
fill_list-fill_items-requires t c =
    let there : item_schema (Some (data_of c.args.schema.now)) ≡ Some (data_of c.in-Some.below.now) = sym c.keyword.ensures ∙ ap schema_of c.in-Some.is in
    let below = items_depth_less (data_of c.args.schema.now) (data_of c.in-Some.below.now) there in
    (omega arith, tt)

pub fill_list-returns-in-None : goal.fill_list-returns-in-None
fill_list-returns-in-None t c =
    let none : item_schema (Some (data_of c.args.schema.now)) ≡ None = sym c.keyword.ensures ∙ ap schema_of c.in-None.is in
    ap tree.list (sym (ap (λ o. filled_items filled o c.args.items) none ∙ items_none filled c.args.items))

pub fill_member-fill_part-requires : goal.fill_member-fill_part-requires
fill_member-fill_part-requires t c =
    let there : member_schema c.as_str.result.now (Some (data_of c.args.schema.now)) ≡ Some (data_of c.in-Some.below.now) = sym c.member_schema.ensures ∙ ap schema_of c.in-Some.is in
    let below = schema_depth c.as_str.result.now (data_of c.args.schema.now) (data_of c.in-Some.below.now) there in
    (omega arith, tt)

pub fill_items-loop-item-preserved : goal.fill_items-loop-item-preserved
fill_items-loop-item-preserved t c =
    items_more (data_of c.args.schema.now) c.args.items c.in-Some.item c.in_ok-tree.tree _ _ c.loop-item.filled.items _ c.in-Some.ensures.steps.0 c.in_ok-push.ensures.items c.reveal_invariant.ensures c.in_ok-tree.ensures c.loop-item.invariant

pub fill_items-returns : goal.fill_items-returns
fill_items-returns t c =
    items_end (data_of c.args.schema.now) c.args.items _ c.loop-item.filled.items (no_more _ _ c.loop-item.item-iterator.rest.ok.0 c.in-None.ensures.steps.0) c.loop-item.invariant

pub fill_members-loop-member-preserved : goal.fill_members-loop-member-preserved
fill_members-loop-member-preserved t c =
    members_more (data_of c.args.schema.now) c.args.members c.in-Some.member _ _ _ c.loop-member.filled.items _ c.in-Some.ensures.steps.0 c.in_ok-push.ensures.items c.in_ok-fill_member.ensures c.loop-member.invariant

pub fill_members-returns : goal.fill_members-returns
fill_members-returns t c =
    members_end (data_of c.args.schema.now) c.args.members _ c.loop-member.filled.items (no_more _ _ c.loop-member.member-iterator.rest.ok.0 c.in-None.ensures.steps.0) c.loop-member.invariant

pub fill_members-invariant_of-result : goal.fill_members-invariant_of-result
fill_members-invariant_of-result t c =
    members_sorted (data_of c.args.schema.now) c.args.members _ c.loop-member.filled.items (no_more _ _ c.loop-member.member-iterator.rest.ok.0 c.in-None.ensures.steps.0) c.loop-member.invariant
