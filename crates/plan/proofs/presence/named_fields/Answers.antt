use Rattle.std.proofs.Common.{◌≡◌, ◌∙◌, ap, take}
use Rattle.std.proofs.lemmas.List.{take_all}
use Rattle.schema.specs.Nodes.View.{validations_of}
use Rattle.schema.specs.Nodes.Junctors.{names_in}
use Rattle.plan.specs.Samples.Presence.{named}
use Rattle.plan.proofs.ValueLemmas.{names_from}
use Rattle.plan.proofs.presence.named_fields.Goals as goal

pub returns-clause-names : goal.returns-clause-names
returns-clause-names c = λ few.
    let cs = validations_of c.args.junctors.now in
    let sorted : c.put_in_order.new.list.items ≡ named cs = names_from (names_in cs) _ _ (rw c.new-names.ensures.items at c.in_ok-push_names.ensures) c.put_in_order.ensures in
    c.truncate.ensures.items ∙ (ap (take 4) sorted ∙ take_all 4 (named cs) few)
