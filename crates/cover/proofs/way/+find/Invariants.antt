use Rattle.std.proofs.Common.{◌≡◌, [], take, All}
use Rattle.schema.specs.Nodes.View.{node_of}
use Rattle.explain.specs.Paths.FieldPath.{field}
use Rattle.plan.specs.Samples.Site.{below}
use Rattle.cover.specs.Internal.Ways.{LeadsNowhere}
use Rattle.cover.proofs.way.+find.Given as goal

abbrev pub invariant-find_field-loop-field : goal.invariant-find_field-loop-field
invariant-find_field-loop-field l = record {
  kept : l.steps.items ≡ l.initial.steps.items;
  none : All (λ f. LeadsNowhere (below [] (field f.name)) (node_of f.node) l.text) (take l.field-index l.field-items);
}
