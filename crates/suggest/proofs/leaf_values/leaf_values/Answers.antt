use Rattle.std.proofs.Common.{◌≡◌, ◌∙◌, [], IfOk, sym, ap, subst}
use Rattle.std.specs.Prelude.{filter, vec_len}
use Rattle.schema.specs.Nodes.View.{node_of}
use Rattle.suggest.specs.View.{trees_of, trees_at, tree_at}
use Rattle.suggest.specs.Internal.Parts.{general_of}
use Rattle.suggest.specs.Suggested.Chosen.{chosen_values}
use Rattle.suggest.specs.Suggested.LeafValues.{takes, hinted_values, joined}
use Rattle.suggest.proofs.LeafValueLemmas.{none_there, beside_some, alone_some}
use Rattle.suggest.proofs.leaf_values.leaf_values.Goals as goal
use Rattle.suggest.proofs.leaf_values.leaf_values.Goals.{then-is_empty+in_ok-values-2, else-is_empty+then-general+in_ok-values-3, else-is_empty+else-general}

pub returns : goal.returns
returns c =
    let G = general_of c.args.general.now in
    let N = node_of c.args.node.now in
    let hinted = hinted_values G N (tree_at c.args.hints.now.default) (tree_at c.args.hints.now.schema) in
    let vs = c.in_ok-values.values in
    let standing = ap (λ ds. joined G N ds hinted) c.in_ok-values.ensures in
    let all : trees_of c.if-is_empty.values.items ≡ joined G N (filter (takes N) (trees_at c.args.found.now)) hinted = elim c.if-is_empty.branch [
      | then-is_empty+in_ok-values-2 w ↦
          let none : trees_of vs.items ≡ [] = none_there vs.items (vec_len vs) vs.ok.0 (sym c.is_empty.ensures ∙ w.if-is_empty.true) in
          ap (λ v. trees_of v.items) w.values-is ∙ (w.in_ok-values-2.ensures ∙ (ap (λ ds. joined G N ds hinted) (sym none) ∙ standing))
      | else-is_empty+then-general+in_ok-values-3 w ↦ ap (λ v. trees_of v.items) w.values-is
          ∙ (w.in_ok-values-3.ensures ∙ (beside_some G N vs.items (vec_len vs) hinted vs.ok.0 (sym c.is_empty.ensures ∙ w.if-is_empty.false) w.if-general.true ∙ standing))
      | else-is_empty+else-general w ↦ ap (λ v. trees_of v.items) w.values-is
          ∙ (alone_some G N vs.items (vec_len vs) hinted vs.ok.0 (sym c.is_empty.ensures ∙ w.if-is_empty.false) w.if-general.false ∙ standing)
    ] in
    subst (λ ds. IfOk c.chosen.result (λ ts. trees_of ts.items ≡ chosen_values c.args.general.now.limits.entries ds)) (ap trees_of c.deref.ensures.value ∙ all) c.chosen.ensures
