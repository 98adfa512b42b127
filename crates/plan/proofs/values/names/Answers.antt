use Rattle.std.proofs.Common.{◌∙◌, arith}
use Rattle.std.proofs.lemmas.List.{take_all}
use Rattle.plan.proofs.ValueLemmas.{names_from}
use Rattle.plan.proofs.values.names.Goals as goal

pub returns : goal.returns
returns c = names_from _ _ _ (c.loop-name.invariant ∙ take_all c.loop-name.name-index c.args.names.now (omega arith)) c.put_in_order.ensures
