use Rattle.schema.proofs.RuleLemmas.{two_steps}
use Rattle.schema.proofs.rules.is_other_field.Goals as goal

pub returns-then-is_property : goal.returns-then-is_property
returns-then-is_property c = two_steps c.args.place.now _ _ c.is_other_name.result c.in-len2.len_at_least c.in-len2.len_below c.if-is_property.ensures c.is_other_name.ensures
