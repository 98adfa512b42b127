use Rattle.std.proofs.Common.{◌++◌, ◌∙◌, ap, sym}
use Rattle.explain.specs.Paths.FieldPath.{item}
use Rattle.explain.specs.Paths.PathText.{step_text}
use Rattle.schema.specs.Nodes.View.{node_of}
use Rattle.plan.proofs.ItemPathLemmas.{item_path}
use Rattle.plan.proofs.PoolPathLemmas.{no_path}
use Rattle.plan.proofs.pool_paths.is_fixable_path.Goals as goal

pub returns-in-Some : goal.returns-in-Some
returns-in-Some c = item_path c.paths_have_one_text.ensures c.args.schema.now (node_of c.in-Ok.field-0.now) c.args.text.now c.in-Some.list.now c.leads_to_map_list.result c.in-Ok.ensures.node (c.in-Some.ensures.cases.1.1 ∙ ap (λ l. l ++ step_text item) (sym c.in-Some.ensures.cases.2)) c.leads_to_map_list.ensures

pub returns-in-Err : goal.returns-in-Err
returns-in-Err c = (
  λ is. cc,
  λ h. absurd (no_path c.paths_have_one_text.ensures c.args.schema.now c.args.text.now c.in-Err.field-0 c.in-Err.ensures.fault (h.0, h.1, h.2.0)),
)
