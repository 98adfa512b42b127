use Rattle.std.proofs.Common.{sym, ◌∙◌}
use Rattle.std.proofs.lemmas.Map.Text.{is_eq-slice_cmp}
use Rattle.jtree.proofs.order.TreePartialEq.eq.Goals as goal

pub returns-in-Text-Text : goal.returns-in-Text-Text
returns-in-Text-Text c = rw (c.in-Text-Text.is-0, c.in-Text-Text.is-1) (c.eq.ensures ∙ sym (is_eq-slice_cmp c.in-Text-Text.a c.in-Text-Text.b))
