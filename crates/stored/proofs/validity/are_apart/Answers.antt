use Rattle.std.proofs.Common.{◌∙◌, sym}
use Rattle.stored.proofs.AscendingLemmas.{ordered_apart}
use Rattle.stored.proofs.validity.are_apart.Goals as goal

pub returns-then-are_ordered : goal.returns-then-are_ordered
returns-then-are_ordered c =
    c.if-are_ordered.true ∙ sym (ordered_apart c.args.list.now.list_type c.args.list.now.keys.items c.args.items.now (sym c.are_ordered.ensures ∙ c.if-are_ordered.true))
