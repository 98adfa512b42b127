use Rattle.std.proofs.Common.{◌≡◌, sym, ap, ◌∙◌}
use Rattle.jtree.specs.Data.{list, item}
use Rattle.jtree.specs.View.{data_of, items_of}
use Rattle.schema.specs.Rules.Broken.{holder}
use Rattle.schema.proofs.PatternLemmas.{first_item}
use Rattle.schema.proofs.context.begins_with_holder.Goals as goal

pub returns-in-len1-up : goal.returns-in-len1-up
returns-in-len1-up c =
    let xs = c.as_slice.result.now in
    let t = c.first-item.result in
    let first = first_item xs t c.in-len1-up.len_at_least c.first-item.is in
    let is : data_of c.args.tree.now ≡ list (item (data_of t) first.0) =
    ap data_of c.in-List.is ∙ sym (ap list (ap items_of c.as_slice.ensures.value ∙ c.items.view_is)) ∙ ap list first.1 in (
      λ h. (first.0, is ∙ ap (λ d. list (item d first.0)) (c.is_holder.ensures.0 h)),
      λ e. c.is_holder.ensures.1 (let whole = e.1 in let same : data_of t ≡ holder = cc in same),
    )
