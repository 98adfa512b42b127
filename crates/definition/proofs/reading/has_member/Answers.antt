use Rattle.std.proofs.Common.{◌≡◌, ◌≤◌, List, [], ◌∷◌, length, true, refl, arith, ◌∙◌, ap}
use Rattle.jtree.specs.View.{members_of}
use Rattle.jtree.specs.declared.value.Member.{Member}
use Rattle.definition.specs.Reading.{has_member}
use Rattle.definition.proofs.reading.has_member.Goals as goal

some_member : (ms : List Member) → 1 ≤ length ms → true ≡ has_member (members_of ms)
some_member [] h = absurd (omega arith)
some_member (m ∷ ms) h = refl

pub returns-in_default : goal.returns-in_default
returns-in_default c = some_member c.as_slice.result.now c.in_default.len_at_least ∙ ap has_member (ap members_of c.as_slice.ensures.value ∙ c.object.view_is)
