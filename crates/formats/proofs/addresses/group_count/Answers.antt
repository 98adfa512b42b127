use Rattle.std.proofs.Common.{rules, tests, ◌==◌, refl}
use Rattle.std.proofs.lemmas.Iterator.Consumers.{YieldsList-from_filter, count_from_yields_List}
use Rattle.std.proofs.lemmas.Iterator.Splits.{YieldsList-from_slice_split}
use Rattle.formats.specs.Addresses.{is_group}
use Rattle.formats.proofs.addresses.group_count.Goals as goal

pub returns : goal.returns
returns c =
    count_from_yields_List c.filter.result _ c.count.ensures.ran
    (YieldsList-from_filter _ is_group (YieldsList-from_slice_split _ (λ b. b == 58) c.args.bytes.now (cc) (cc) refl (λ x r q k. search (rules, tests)))
    c.filter.ensures.closure (λ x r q k. search (rules, tests)))
