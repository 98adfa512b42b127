use Rattle.std.proofs.lemmas.Result.{IfOk-weaker}
use Rattle.schema.specs.Nodes.View.{validations_of}
use Rattle.plan.specs.Internal.Renewed.{IsRowRemade}
use Rattle.plan.proofs.SeenLemmas.{object_met}
use Rattle.plan.proofs.renewing.remake_object.Goals as goal

pub returns-clause-remade : goal.returns-clause-remade
returns-clause-remade g c =
    let a = c.args.arena.now in
    let o = c.args.object.now in
    let names = c.in_ok-named.named.items in
    let ends = c.in_ok-ends.ends.items in
    let cs = validations_of o.junctors in
    IfOk-weaker c.remake_row.result (λ _. IsRowRemade g.Z.SizeSet.holds a.limit a.values c.args.number o.bounds c.deref-2.result.now c.deref-3.result.now c.args.place c.args.must c.args.nullable a.entries.items c.remake_row.new.arena.entries.items) _
    (λ u made. (
      names,
      ends,
      record { names_are = c.in_ok-named.ensures.names; met = λ same. object_met cs names ends same (rw c.deref.ensures.value at c.in_ok-ends.ensures.whole) (rw c.deref.ensures.value at c.in_ok-ends.ensures.each) },
      rw (c.deref-2.ensures.value, c.deref-3.ensures.value) at made,
    ))
    c.remake_row.ensures.remade
