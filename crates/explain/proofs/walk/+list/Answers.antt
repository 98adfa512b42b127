use Rattle.std.proofs.Common.{◌≡◌, [], ◌∷◌, ◌∙◌, arith, ap, subst, map, take, length, option_map, string_bytes}
use Rattle.jtree.specs.View.{data_of}
use Rattle.schema.specs.Nodes.View.{node_of}
use Rattle.explain.specs.Fields.View.{field_of}
use Rattle.explain.specs.Internal.ListedByLevel.{progress, noted, listed_as, below}
use Rattle.explain.specs.Paths.StepView.{step_of}
use Rattle.explain.proofs.WalkLemmas.{left}
use Rattle.explain.proofs.walk.+list.Goals as goal

pub list_step-returns : goal.list_step-returns
list_step-returns t c =
    let old = c.args.walk.now in
    let N = node_of c.args.node.now in
    let default = option_map data_of c.args.default in
    let ts = map field_of old.fields.items in
    let len : c.len-length.result ≡ length (string_bytes old.path) = omega (arith, c.len-length.ensures) in
    left (string_bytes old.path) ts (step_of c.args.step) c.args.required default N (below N) (progress c.push_field.new.self) (progress c.list_below.new.walk) (string_bytes c.truncate.new.self)
    (subst (λ at. progress c.push_field.new.self ≡ noted (record { path = at; listed = ts }) (listed_as at c.args.required default N ∷ [])) c.in_ok-push_step.ensures c.in_ok-push_field.ensures)
    c.in_ok-list_below.ensures
    (c.truncate.ensures.bytes ∙ ap (λ n. take n (string_bytes c.list_below.new.walk.path)) len)
