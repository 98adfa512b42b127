use Rattle.std.proofs.Common.{Some, sym, ap, ◌∙◌}
use Rattle.std.specs.Prelude.{codes}
use Rattle.std.proofs.lemmas.Option.{same_Some}
use Rattle.jtree.specs.View.{data_of}
use Rattle.schema.specs.Rules.Broken.{pattern}
use Rattle.schema.proofs.PatternLemmas.{single, single_under}
use Rattle.schema.proofs.context.is_holder.Goals as goal

pub returns-then-size-eq1 : goal.returns-then-size-eq1
returns-then-size-eq1 c =
    let d = data_of c.args.tree.now in
    let any = data_of c.in-Some.any.now in (
      λ t. single d (codes "anyOf") pattern (sym c.size.ensures ∙ c.if-size-eq1.true) (sym c.in-Some.ensures ∙ ap Some (c.is_pattern.ensures.0 t)),
      λ e. c.is_pattern.ensures.1 (same_Some any pattern (c.in-Some.ensures ∙ single_under d (codes "anyOf") pattern e)),
    )
