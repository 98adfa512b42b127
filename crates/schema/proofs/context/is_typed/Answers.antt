use Rattle.std.proofs.Common.{sym, ◌∙◌}
use Rattle.std.specs.Prelude.{codes}
use Rattle.jtree.specs.Data.{text}
use Rattle.jtree.specs.View.{data_of}
use Rattle.schema.proofs.PatternLemmas.{single, single_under}
use Rattle.schema.proofs.context.is_typed.Goals as goal

pub returns-then-size-eq1 : goal.returns-then-size-eq1
returns-then-size-eq1 c =
    let d = data_of c.args.tree.now in (
      λ t. single d (codes "type") (text c.args.name.now) (sym c.size.ensures ∙ c.if-size-eq1.true) (c.has_text.ensures.0 t),
      λ e. c.has_text.ensures.1 (single_under d (codes "type") (text c.args.name.now) e),
    )
