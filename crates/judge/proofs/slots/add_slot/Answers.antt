use Rattle.std.proofs.Common.{◌∙◌, sym, ap, take}
use Rattle.std.proofs.lemmas.List.{map-append}
use Rattle.judge.specs.Internal.FaultsByLevel.{slots_of, named_by}
use Rattle.judge.proofs.slots.add_slot.Goals as goal

pub returns-in_ok-insert-in-Some : goal.returns-in_ok-insert-in-Some
returns-in_ok-insert-in-Some c =
    ap slots_of c.in_ok-insert-in-Some.ensures.items
    ∙ (map-append named_by (take c.in-Some.at c.args.slots.now.items) _ ∙ sym (rw c.deref.ensures.value at c.in-Some.ensures.some))
