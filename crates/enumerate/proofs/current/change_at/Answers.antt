use Rattle.enumerate.proofs.current.change_at.Goals as goal

pub returns-then-depth-gt0 : goal.returns-then-depth-gt0
returns-then-depth-gt0 c = λ old new h. (h.part, h.is)
