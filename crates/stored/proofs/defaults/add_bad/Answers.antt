use Rattle.std.proofs.Common.{◌++◌, ◌∷◌, [], ◌∙◌, ap}
use Rattle.std.specs.Prelude.{map, option_map}
use Rattle.std.proofs.lemmas.List.{map_push}
use Rattle.jtree.specs.View.{data_of}
use Rattle.schema.specs.Nodes.View.{node_of}
use Rattle.schema.specs.Rules.Breaks.{reported}
use Rattle.schema.specs.declared.violation.Rule.TheVariants.{V14}
use Rattle.stored.proofs.DefaultLemmas.{bad_added, good_passed}
use Rattle.stored.proofs.defaults.add_bad.Goals as goal

pub returns-in_ok-push : goal.returns-in_ok-push
returns-in_ok-push c =
    bad_added c.args.pointer.now (node_of c.args.field.now.node) (option_map data_of c.args.field.now.default) (data_of c.in-Some.default) _ _ (ap (option_map data_of) c.in-Some.is)
    (λ good. let is = c.in_ok-is_good.ensures.1 good in let is_not = c.if-not-branch.true in cc)
    (ap (map reported) c.in_ok-push.ensures.items ∙ (map_push reported c.args.found.now.items _
    ∙ ap (λ text. map reported c.args.found.now.items ++ record { pointer = text; rule = V14 } ∷ []) c.in_ok-from_str.ensures.ok))

pub returns-else-not-branch : goal.returns-else-not-branch
returns-else-not-branch c =
    good_passed c.args.pointer.now (node_of c.args.field.now.node) (option_map data_of c.args.field.now.default) (data_of c.in-Some.default) (map reported c.args.found.now.items)
    (ap (option_map data_of) c.in-Some.is) (c.in_ok-is_good.ensures.0 c.if-not-branch.false)
