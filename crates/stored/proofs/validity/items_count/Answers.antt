use Rattle.std.proofs.Common.{◌∙◌, ap}
use Rattle.jtree.specs.View.{items_of}
use Rattle.stored.specs.Objects.Fault.{items_count}
use Rattle.stored.proofs.CountLemmas.{items_counted}
use Rattle.stored.proofs.validity.items_count.Goals as goal

pub returns : goal.returns
returns c = items_counted c.as_slice.result.now ∙ ap items_count (ap items_of c.as_slice.ensures.value ∙ c.items.view_is)
