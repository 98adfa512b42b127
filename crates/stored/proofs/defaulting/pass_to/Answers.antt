use Rattle.std.proofs.Common.{ap, sym, ◌∙◌}
use Rattle.jtree.specs.Order.{text_cmp}
use Rattle.stored.proofs.Passing.{pass_found, pass_absent}
use Rattle.stored.proofs.defaulting.pass_to.Goals as goal

pub returns-in-Equal : goal.returns-in-Equal
returns-in-Equal c =
    let same = ap (λ n. text_cmp n c.args.name.now) (sym c.as_str.ensures) ∙ sym c.in-Equal.ensures in
    c.loop-member.invariant _ _ _ (rw c.in-Some.ensures.items (pass_found c.args.name.now c.in-Some.member _ c.loop-member.passed.items same))

pub returns-in-Greater : goal.returns-in-Greater
returns-in-Greater c =
    let past = ap (λ n. text_cmp n c.args.name.now) (sym c.as_str.ensures) ∙ sym c.in-Greater.ensures in
    c.loop-member.invariant _ _ _ (rw (c.in-Some.ensures.items, c.in_ok-push_front-in-Greater.ensures.items) (pass_absent c.args.name.now c.in-Some.member _ c.loop-member.passed.items past))
