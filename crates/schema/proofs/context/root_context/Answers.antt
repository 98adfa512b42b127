use Rattle.std.proofs.Common.{refl}
use Rattle.schema.proofs.ContextLemmas.{context_root}
use Rattle.schema.proofs.context.root_context.Goals as goal

pub returns : goal.returns
returns c =
    context_root c.args.schema.now _
    (record { outer = refl; inside = refl; pattern = refl; any = c.has_any_pattern.ensures; all = c.has_all_pattern.ensures })
