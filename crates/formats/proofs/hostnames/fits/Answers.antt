use Rattle.std.proofs.Common.{rules, tests, length, nat_le, lit<}
use Rattle.std.proofs.lemmas.Iterator.Search.{all_from_yields_List}
use Rattle.std.proofs.lemmas.Iterator.Splits.{YieldsList-from_str_split}
use Rattle.formats.proofs.hostnames.fits.Goals as goal

pub returns-then-text-le255 : goal.returns-then-text-le255
returns-then-text-le255 c =
    let labels = all_from_yields_List (λ label. nat_le (length label) 63) _ _ c.all.result c.all.ensures.ran
    (YieldsList-from_str_split 46 c.args.text.now (lit< tt) c.split.ensures.text c.split.ensures.has_more c.split.ensures.pattern) (λ x r q k. search (rules, tests)) in
    rw labels (search rules)
