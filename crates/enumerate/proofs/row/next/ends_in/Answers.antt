use Rattle.std.proofs.Common.{sym, ◌∙◌}
use Rattle.std.proofs.lemmas.Slice.Eq.{bytes_eq-Decides}
use Rattle.enumerate.proofs.rows.Walks.{last_is}
use Rattle.enumerate.proofs.row.next.ends_in.Goals as goal

pub returns-in-Some : goal.returns-in-Some
returns-in-Some c =
    let last = c.in-Some.last.now in
    let name = c.args.name.now in
    let is = last_is c.args.members.now last name c.in-Some.ensures.value in
    let text = bytes_eq-Decides c.as_str.result.now name in
    (λ yes. is.1 (sym c.as_str.ensures ∙ text.0 (sym c.eq.ensures ∙ yes)), λ ends. c.eq.ensures ∙ text.1 (c.as_str.ensures ∙ is.0 ends))
