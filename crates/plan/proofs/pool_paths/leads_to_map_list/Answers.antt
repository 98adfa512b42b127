use Rattle.std.proofs.Common.{◌≡◌, [], length, arith, ap, sym, ◌∙◌, refl, rules}
use Rattle.std.proofs.lemmas.List.{nil_from_length}
use Rattle.schema.specs.Nodes.View.{node_of}
use Rattle.plan.specs.Pools.FixedPaths.{is_map_list}
use Rattle.plan.proofs.ItemPathLemmas.{known_list, no_list}
use Rattle.plan.proofs.pool_paths.leads_to_map_list.Goals as goal

pub returns-then-is_empty : goal.returns-then-is_empty
returns-then-is_empty c =
    let zero : length c.args.text.now ≡ 0 = grind (arith, c.is_empty.ensures, c.if-is_empty.true) in
    let none : [] ≡ c.args.text.now = sym (nil_from_length c.args.text.now zero) in
    let k = known_list c.paths_have_one_text.ensures c.args.schema.now c.args.schema.now [] c.args.text.now none refl in
    let same = c.is_map_list.ensures ∙ ap is_map_list c.root.ensures.node in
    ((λ yes. k.0 (sym same ∙ yes)), λ m. same ∙ k.1 m)

pub returns-in-Ok : goal.returns-in-Ok
returns-in-Ok c =
    let t = c.in-Ok.ensures.node in
    let k = known_list c.paths_have_one_text.ensures c.args.schema.now (node_of c.in-Ok.node.now) t.0 c.args.text.now t.1 t.2.1 in
    ((λ yes. k.0 (sym c.is_map_list-in-Ok.ensures ∙ yes)), λ m. c.is_map_list-in-Ok.ensures ∙ k.1 m)

pub returns-in-Err : goal.returns-in-Err
returns-in-Err c = (
  λ is. cc,
  λ m. absurd (no_list c.paths_have_one_text.ensures c.args.schema.now c.args.text.now c.in-Err.field-0 c.in-Err.ensures.fault (search rules) m),
)
