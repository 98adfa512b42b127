use Rattle.std.proofs.Common.{◌≡◌, true, false, sym, ◌∙◌}
use Rattle.plan.proofs.ListEntryLemmas.{key_first, other_first}
use Rattle.plan.proofs.MapListLemmas.{own_key}
use Rattle.plan.proofs.TupleLemmas.{count_parts}
use Rattle.plan.proofs.list_entries.tuples_from.Goals as goal

pub returns-then-slot : goal.returns-then-slot
returns-then-slot g c = λ P sites i s ss right inside is keys h.
    let key : s.key ≡ true = sym is.key ∙ c.if-slot.true in
    let k = own_key P s ss keys key in
    let count = count_parts P c.args.arena.now.limit s.site c.count.result c.requires k.one (rw is.node at (c.count.ensures P sites i right is.below inside (rw is.node k.leaf))) in
    rw c.saturating_mul.ensures (key_first P s ss c.args.later c.count.result key h count)

pub returns-else-slot : goal.returns-else-slot
returns-else-slot g c = λ P sites i s ss right inside is keys h.
    let key : s.key ≡ false = sym is.key ∙ c.if-slot.false in
    other_first P s ss c.args.later key h
