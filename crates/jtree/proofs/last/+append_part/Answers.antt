use Rattle.std.proofs.Common.{◌≡◌, ◌-◌, ◌++◌, ◌∷◌, [], suc, sym, ap, ◌∙◌, append_assoc, append-nil, arith}
use Rattle.jtree.specs.View.{data_of}
use Rattle.jtree.specs.PartText.{part_text}
use Rattle.jtree.proofs.PartText.{part_below, no_part}
use Rattle.jtree.proofs.last.+append_part.Goals as goal

pub returns-in_default : goal.returns-in_default
returns-in_default t c =
    let d = data_of c.args.tree.now in
    let more : c.args.depth ≡ suc (c.args.depth - 1) = omega (arith, c.if-depth-eq0.false) in
    let none : part_text c.args.depth d ≡ [] = ap (λ n. part_text n d) more ∙ no_part (c.args.depth - 1) d (sym c.in_default.ensures) in
    sym (append-nil c.args.out.items) ∙ ap (λ s. c.args.out.items ++ s) (sym none)

pub returns : goal.returns
returns t c =
    let d = data_of c.args.tree.now in
    let part = data_of c.in-Some.part.now in
    let b = c.closing.result in
    let front = c.args.out.items in
    let more : c.args.depth ≡ suc (c.args.depth - 1) = omega (arith, c.if-depth-eq0.false) in
    let whole : part_text c.args.depth d ≡ part_text (c.args.depth - 1) part ++ b ∷ [] = ap (λ n. part_text n d) more ∙ part_below (c.args.depth - 1) d part b (sym c.in-Some.ensures) c.closing.ensures.list c.closing.ensures.object in
    c.in_ok-push.ensures.items ∙ ap (λ l. l ++ b ∷ []) c.in_ok-out.ensures ∙ append_assoc front (part_text (c.args.depth - 1) part) (b ∷ []) ∙ ap (λ s. front ++ s) (sym whole)
