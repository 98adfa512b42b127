use Rattle.std.proofs.Common.{◌≡◌, ◌==◌, ◌∙◌, ap, not, length, vec_len, arith}
use Rattle.schema.specs.declared.node.MapType.TheVariants.{Granular}
use Rattle.stored.specs.Internal.LeavesByLevel.{divides_object}
use Rattle.stored.proofs.LeafLemmas.{divides_counted}
use Rattle.stored.proofs.listing.is_object_divided.Goals as goal

pub returns-in-Granular : goal.returns-in-Granular
returns-in-Granular c =
    let ms = c.members.inside.members in
    let count : vec_len ms ≡ length ms.items = omega (arith, ms.ok.0) in
    rw c.in-Granular.is (ap not (c.is_empty.ensures ∙ ap (λ n. n == 0) count) ∙ (divides_counted ms.items ∙ ap (divides_object Granular) c.members.view_is))
