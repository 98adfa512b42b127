use Rattle.std.proofs.Common.{refl, rules}
use Rattle.std.proofs.lemmas.Fn.{dedup_same}
use Rattle.jtree.specs.View.{data_of}
use Rattle.plan.specs.Samples.Leasts.{same_number}
use Rattle.plan.proofs.ValueLemmas.{base_from, base_deduped}
use Rattle.plan.proofs.values.put_values_in_order.Goals as goal

pub returns : goal.returns
returns c =
    base_deduped _ _ _ (dedup_same _ (λ t u. same_number (data_of t) (data_of u)) _ (λ x y b f' x' y' k. search rules) _ _ c.dedup_by.ensures.filtered)
    (base_from _ _ _ refl c.put_in_order.ensures)
