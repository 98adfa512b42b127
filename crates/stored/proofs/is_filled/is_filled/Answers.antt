use Rattle.std.proofs.Common.{◌∙◌, sym}
use Rattle.stored.proofs.FilledTest.{passed_is_filled, filled_is_passed}
use Rattle.stored.proofs.is_filled.is_filled.Goals as goal

pub returns : goal.returns
returns c = (λ t. passed_is_filled _ _ (sym c.is_tree_filled.ensures ∙ t), λ h. c.is_tree_filled.ensures ∙ filled_is_passed _ _ c.reveal_invariant.ensures c.reveal_invariant-2.ensures h)
