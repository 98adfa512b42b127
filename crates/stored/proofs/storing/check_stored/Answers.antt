use Rattle.stored.proofs.storing.check_stored.Goals as goal

pub returns-then-is_pruned : goal.returns-then-is_pruned
returns-then-is_pruned c = (
  λ t. record { valid = c.in_ok-valid.ensures.0 c.if-valid.true; pruned = c.is_pruned.ensures.0 c.if-is_pruned.true; filled = c.is_filled.ensures.0 t },
  λ s. c.is_filled.ensures.1 s.filled,
)
