use Rattle.std.proofs.Common.{◌≡◌, length, sym, ap, ◌∙◌, arith}
use Rattle.jtree.specs.Data.{list}
use Rattle.jtree.specs.View.{data_of, items_of}
use Rattle.schema.proofs.PatternLemmas.{pattern_len}
use Rattle.schema.proofs.context.is_pattern.Goals as goal

pub returns-in_default-as_slice : goal.returns-in_default-as_slice
returns-in_default-as_slice c =
    let xs = c.as_slice.result.now in
    let is : list (items_of xs) ≡ data_of c.args.tree.now = ap list (ap items_of c.as_slice.ensures.value ∙ c.items.view_is) ∙ sym (ap data_of c.in-List.is) in
    (λ t. cc, λ e. let two : length xs ≡ 2 = pattern_len xs (is ∙ e) in absurd (omega arith))

pub returns-in_default-as_slice-2 : goal.returns-in_default-as_slice-2
returns-in_default-as_slice-2 c =
    let xs = c.as_slice.result.now in
    let is : list (items_of xs) ≡ data_of c.args.tree.now = ap list (ap items_of c.as_slice.ensures.value ∙ c.items.view_is) ∙ sym (ap data_of c.in-List.is) in
    (λ t. cc, λ e. let two : length xs ≡ 2 = pattern_len xs (is ∙ e) in absurd (omega arith))
