use Rattle.std.proofs.Common.{ap, sym, ◌∙◌, subst}
use Rattle.std.specs.Prelude.{option_map, string_bytes}
use Rattle.jtree.specs.View.{data_of}
use Rattle.plan.specs.Pools.Document.{BreaksForm}
use Rattle.plan.proofs.FirstBreak.{IsPointed, first_pointed}
use Rattle.plan.proofs.pool_form.check_form.Goals as goal

pub returns-in-None-clause-ok : goal.returns-in-None-clause-ok
returns-in-None-clause-ok c =
    let d = data_of c.args.document.now in
    subst (IsPointed (BreaksForm c.args.profile d)) (sym c.in_ok-first_break.ensures ∙ ap (option_map string_bytes) c.in-None.is) (first_pointed c.args.profile d c.reveal_invariant.ensures)

pub returns-in-Some-clause-err : goal.returns-in-Some-clause-err
returns-in-Some-clause-err c = λ limits.
    let d = data_of c.args.document.now in
    subst (IsPointed (BreaksForm c.args.profile d)) (sym c.in_ok-first_break.ensures ∙ ap (option_map string_bytes) c.in-Some.is) (first_pointed c.args.profile d c.reveal_invariant.ensures)
