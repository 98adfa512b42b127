use Rattle.std.proofs.Common.{◌≡◌, ◌∙◌, true, false, sym, arith}
use Rattle.std.specs.declared.cmp.Ordering.TheVariants.{Greater}
use Rattle.std.proofs.lemmas.List.{take_all}
use Rattle.std.proofs.lemmas.List.Elements.{All-more}
use Rattle.jtree.specs.Order.{text_cmp}
use Rattle.jtree.proofs.MemberPlaces.{place_here, place_end}
use Rattle.jtree.proofs.members.search.Goals as goal

pub returns-in-Less-clause-absent : goal.returns-in-Less-clause-absent
returns-in-Less-clause-absent c = place_here false c.args.name.now c.args.members.now c.loop-i.i c.index-members-i.result c.loop-i.invariant (omega arith) c.index-members-i.is (rw (← c.as_str.ensures) (sym c.cmp.ensures ∙ c.in-Less.is))

pub returns-in-Equal-clause-found : goal.returns-in-Equal-clause-found
returns-in-Equal-clause-found c = place_here true c.args.name.now c.args.members.now c.loop-i.i c.index-members-i.result c.loop-i.invariant (omega arith) c.index-members-i.is (rw (← c.as_str.ensures) (sym c.cmp.ensures ∙ c.in-Equal.is))

pub loop-i-preserved : goal.loop-i-preserved
loop-i-preserved c =
    let past : text_cmp c.args.name.now c.index-members-i.result.name ≡ Greater = rw (← c.as_str.ensures) (sym c.cmp.ensures ∙ c.in-Greater.is) in
    All-more (λ m. text_cmp c.args.name.now m.name ≡ Greater) c.args.members.now c.loop-i.i c.index-members-i.result (omega arith) c.loop-i.invariant (rw (← c.index-members-i.is) past)

pub returns-clause-absent : goal.returns-clause-absent
returns-clause-absent c =
    let all = take_all c.loop-i.i c.args.members.now (omega arith) in
    place_end c.args.name.now c.args.members.now (rw all at c.loop-i.invariant)
