use Rattle.std.proofs.Common.{ap, ◌∙◌, length}
use Rattle.std.specs.Prelude.{List, ◌==◌}
use Rattle.jtree.specs.declared.value.Tree.{Tree}
use Rattle.cluster.specs.Metadata.{has_no_items}
use Rattle.cluster.proofs.MetaTrees.{empty_items}
use Rattle.cluster.proofs.object_meta.has_no_items.Goals as goal

pub returns : goal.returns
returns c = c.is_empty.ensures ∙ (ap (λ (ts : List Tree). length ts == 0) c.as_slice.ensures.value ∙ (empty_items c.items.inside.items.items ∙ ap has_no_items c.items.view_is))
