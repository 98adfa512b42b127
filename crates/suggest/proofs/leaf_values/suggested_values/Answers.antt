use Rattle.std.proofs.Common.{◌≡◌, ◌∙◌, ◌++◌, [], sym, ap}
use Rattle.std.specs.Prelude.{vec_len}
use Rattle.schema.specs.Nodes.View.{node_of}
use Rattle.suggest.specs.View.{trees_of}
use Rattle.suggest.specs.Internal.Parts.{general_of}
use Rattle.suggest.specs.Suggested.LeafValues.{general_values, or_general}
use Rattle.suggest.proofs.LeafValueLemmas.{none_there, some_hinted}
use Rattle.suggest.proofs.leaf_values.suggested_values.Goals as goal
use Rattle.suggest.proofs.leaf_values.suggested_values.Goals.{then-is_empty+in_ok-push_general, else-is_empty}

pub returns : goal.returns
returns c =
    let general = general_values (general_of c.args.general.now) (node_of c.args.node.now) in
    let vs = c.in_ok-values.values in
    elim c.if-is_empty.branch [
      | then-is_empty+in_ok-push_general w ↦
          let none : trees_of vs.items ≡ [] = none_there vs.items (vec_len vs) vs.ok.0 (sym c.is_empty.ensures ∙ w.if-is_empty.true) in
          ap (λ v. trees_of v.items) w.values-is ∙ (w.in_ok-push_general.ensures ∙ (ap (λ ds. ds ++ general) none ∙ ap (λ ds. or_general ds general) (sym none ∙ c.in_ok-values.ensures)))
      | else-is_empty w ↦ ap (λ v. trees_of v.items) w.values-is
          ∙ (some_hinted vs.items (vec_len vs) general vs.ok.0 (sym c.is_empty.ensures ∙ w.if-is_empty.false) ∙ ap (λ ds. or_general ds general) c.in_ok-values.ensures)
    ]
