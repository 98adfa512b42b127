use Rattle.std.proofs.Common.{◌++◌, ◌∙◌, ap, map, string_bytes}
use Rattle.jtree.specs.View.{data_of}
use Rattle.judge.specs.Patterns.{a_schema, reported}
use Rattle.judge.specs.Internal.PatternsByLevel.{found, reported_at}
use Rattle.judge.proofs.PatternLemmas.{all_patterns}
use Rattle.judge.proofs.listing.patterns.Goals as goal

pub returns : goal.returns
returns c =
    let raw = data_of c.args.schema.now in
    let fs = found a_schema raw in (
      fs,
      all_patterns raw c.reveal_invariant.ensures,
      ap (λ p. p.reported) c.in_ok-add_part.ensures ∙ (ap (λ xs. map reported xs ++ map (reported_at (string_bytes c.new.result)) fs) c.new-2.ensures.items ∙ ap (λ at. map (reported_at at) fs) c.new.ensures.bytes),
    )
