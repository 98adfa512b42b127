use Rattle.std.proofs.Common.{length, ap, sym, ◌∙◌}
use Rattle.std.specs.Prelude.{◌==◌}
use Rattle.jtree.specs.View.{data_of}
use Rattle.crdx.proofs.PatternLemmas.{none_refused, none_among}
use Rattle.crdx.proofs.running.schema_patterns.compile_patterns.Goals as goal

pub returns-then-is_empty-clause-patterns : goal.returns-then-is_empty-clause-patterns
returns-then-is_empty-clause-patterns c =
    let refused = c.in_ok-patterns.field-0.refused.items in
    let raw = data_of c.args.schema.now in
    none_refused raw (none_among raw refused c.in_ok-patterns.ensures (ap (λ rs. length rs == 0) (sym c.as_slice.ensures.value) ∙ sym c.if-is_empty.ensures))
