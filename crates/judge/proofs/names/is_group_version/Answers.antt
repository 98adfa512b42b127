use Rattle.std.proofs.Common.{rules, tests}
use Rattle.std.proofs.lemmas.Iterator.{YieldsList-from_slice}
use Rattle.std.proofs.lemmas.Iterator.Consumers.{YieldsList-from_filter, count_from_yields_List}
use Rattle.judge.specs.Envelope.{is_slash}
use Rattle.judge.proofs.names.is_group_version.Goals as goal

pub returns : goal.returns
returns c =
    let count = count_from_yields_List c.filter.result _ c.count.ensures.ran
    (YieldsList-from_filter _ is_slash (YieldsList-from_slice c.args.text.now (cc)) c.filter.ensures.closure (λ x b q k. search (rules, tests))) in
    rw count (search rules)
