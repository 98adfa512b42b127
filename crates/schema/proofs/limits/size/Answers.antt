use Rattle.std.proofs.Common.{ap, sym, ◌∙◌}
use Rattle.jtree.specs.View.{data_of, items_of, members_of}
use Rattle.schema.specs.Document.Limits.{size, items_len, members_len}
use Rattle.schema.proofs.PlaceLemmas.{items_size, members_size}
use Rattle.schema.proofs.limits.size.Goals as goal

pub returns-in-List : goal.returns-in-List
returns-in-List c =
    items_size c.as_slice.result.now ∙ ap (λ ts. items_len (items_of ts)) c.as_slice.ensures.value
    ∙ ap items_len c.items.view_is ∙ ap (λ t. size (data_of t)) (sym c.in-List.is)

pub returns-in-Object : goal.returns-in-Object
returns-in-Object c =
    members_size c.as_slice-in-Object.result.now ∙ ap (λ ms. members_len (members_of ms)) c.as_slice-in-Object.ensures.value
    ∙ ap members_len c.members.view_is ∙ ap (λ t. size (data_of t)) (sym c.in-Object.is)
