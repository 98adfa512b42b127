use Rattle.std.proofs.Common.{ap, subst, sym, ◌∙◌}
use Rattle.std.proofs.lemmas.Result.{IfOk-weaker}
use Rattle.jtree.specs.Data.{list, AreTrees}
use Rattle.jtree.specs.Text.{compact}
use Rattle.jtree.specs.View.{items_of}
use Rattle.crdx.proofs.LineLemmas.{items_of_texts, texts_are_trees}
use Rattle.crdx.proofs.running.answer.json_texts.Goals as goal

pub invariant_of-json_tree : goal.invariant_of-json_tree
invariant_of-json_tree c = subst (λ ts. AreTrees (items_of ts)) (sym c.in_ok-items.ensures) (texts_are_trees c.args.texts.now)

pub returns : goal.returns
returns c =
    IfOk-weaker c.json_tree.result _ _ (λ s is. is ∙ ap (λ ds. compact (list ds)) (ap items_of c.in_ok-items.ensures ∙ items_of_texts c.args.texts.now)) c.json_tree.ensures
