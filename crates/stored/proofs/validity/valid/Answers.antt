use Rattle.std.proofs.Common.{◌∙◌, sym}
use Rattle.stored.proofs.ValidLemmas.{valid_is_faultless, faultless_is_valid}
use Rattle.stored.proofs.validity.valid.Goals as goal

pub returns : goal.returns
returns c = (λ t. valid_is_faultless _ _ (sym c.is_valid.ensures ∙ t), λ v. c.is_valid.ensures ∙ faultless_is_valid _ _ c.reveal_invariant.ensures c.reveal_invariant-2.ensures v)
