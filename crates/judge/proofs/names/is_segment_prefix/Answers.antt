use Rattle.std.proofs.Common.{rules, tests}
use Rattle.std.proofs.lemmas.Iterator.{YieldsList-from_slice}
use Rattle.std.proofs.lemmas.Iterator.Search.{any_from_yields_List}
use Rattle.judge.specs.Envelope.{is_slash_or_percent}
use Rattle.judge.proofs.names.is_segment_prefix.Goals as goal

pub returns : goal.returns
returns c =
    let reserved = any_from_yields_List is_slash_or_percent _ _ c.any.result c.any.ensures.ran (YieldsList-from_slice c.args.text.now (cc)) (λ x b q k. search (rules, tests)) in
    rw reserved (search rules)
