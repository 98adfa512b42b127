use Rattle.std.proofs.Common.{◌∙◌, ap}
use Rattle.cel_value.specs.Same.{entries_count}
use Rattle.cel_value.specs.View.{entries_of}
use Rattle.cel_value.proofs.SameLemmas.{entries_counted}
use Rattle.cel_value.proofs.value.Entries.count.Goals as goal

pub returns : goal.returns
returns c = entries_counted c.as_slice.result.now ∙ ap entries_count (ap entries_of c.as_slice.ensures.value ∙ c.self.view_is)
