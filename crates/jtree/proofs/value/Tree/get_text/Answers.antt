use Rattle.std.proofs.Common.{◌∙◌, sym, ap, Some}
use Rattle.jtree.specs.View.{data_of}
use Rattle.jtree.proofs.value.Tree.get_text.Goals as goal

pub returns-in-Some-Text-clause-some : goal.returns-in-Some-Text-clause-some
returns-in-Some-Text-clause-some c = rw c.as_str.ensures (sym c.in-Some-Text.ensures ∙ ap (λ t. Some (data_of t)) c.in-Some-Text.field-0-is)
