use Rattle.std.proofs.Common.{ap, sym, ◌∙◌}
use Rattle.std.specs.Prelude.{not}
use Rattle.jtree.specs.Data.{list}
use Rattle.jtree.specs.View.{data_of, items_of}
use Rattle.schema.specs.Document.Forms.{is_some_list}
use Rattle.schema.proofs.FormLemmas.{some_items}
use Rattle.schema.proofs.forms.is_some_list.Goals as goal

pub returns-in-List : goal.returns-in-List
returns-in-List c =
    ap not c.is_empty.ensures ∙ sym (some_items c.as_slice.result.now) ∙ ap (λ ts. is_some_list (list (items_of ts))) c.as_slice.ensures.value
    ∙ ap (λ ds. is_some_list (list ds)) c.items.view_is ∙ ap (λ t. is_some_list (data_of t)) (sym c.in-List.is)
