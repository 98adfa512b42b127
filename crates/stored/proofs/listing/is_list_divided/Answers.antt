use Rattle.std.proofs.Common.{◌≡◌, ◌==◌, ◌∙◌, ap, not, length, vec_len, arith}
use Rattle.stored.specs.Internal.LeavesByLevel.{divides_list}
use Rattle.stored.proofs.LeafLemmas.{list_divides_counted}
use Rattle.stored.proofs.listing.is_list_divided.Goals as goal

pub returns-in_default : goal.returns-in_default
returns-in_default c =
    let ts = c.items.inside.items in
    let count : vec_len ts ≡ length ts.items = omega (arith, ts.ok.0) in
    ap not (c.is_empty.ensures ∙ ap (λ n. n == 0) count) ∙ (list_divides_counted c.args.list_type ts.items c.in_default.not-Atomic ∙ ap (divides_list c.args.list_type) c.items.view_is)
