use Rattle.std.proofs.Common.{◌∙◌, ap}
use Rattle.jtree.specs.View.{members_of}
use Rattle.stored.specs.Objects.Fault.{members_count}
use Rattle.stored.proofs.CountLemmas.{members_counted}
use Rattle.stored.proofs.validity.members_count.Goals as goal

pub returns : goal.returns
returns c = members_counted c.as_slice.result.now ∙ ap members_count (ap members_of c.as_slice.ensures.value ∙ c.members.view_is)
