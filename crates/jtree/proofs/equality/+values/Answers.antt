use Rattle.std.proofs.Common.{◌≡◌, arith, sym, ◌∙◌}
use Rattle.jtree.specs.Equality.{kind_cmp}
use Rattle.jtree.specs.NumberOrder.{value_cmp}
use Rattle.jtree.proofs.EqualitySteps.{items_end, members_end}
use Rattle.jtree.proofs.equality.+values.Goals as goal

pub compare_item_values-returns : goal.compare_item_values-returns
compare_item_values-returns t c =
    let ended : c.min-i-end.result ≡ c.loop-i.i = omega arith in
    c.cmp.ensures ∙ items_end kind_cmp value_cmp c.args.left.now c.args.right.now c.loop-i.i (sym ended ∙ c.min-i-end.ensures) ∙ c.loop-i.invariant

pub compare_member_values-returns : goal.compare_member_values-returns
compare_member_values-returns t c =
    let ended : c.min-i-end.result ≡ c.loop-i.i = omega arith in
    c.cmp.ensures ∙ members_end kind_cmp value_cmp c.args.left.now c.args.right.now c.loop-i.i (sym ended ∙ c.min-i-end.ensures) ∙ c.loop-i.invariant
