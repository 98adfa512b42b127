use Rattle.std.proofs.Common.{◌≡◌, drop}
use Rattle.jtree.specs.View.{data_of, items_of}
use Rattle.judge.specs.Keywords.{is_among}
use Rattle.judge.proofs.types.is_among.Given as goal

-- the value is among the choices that are left exactly where it is among all
abbrev pub invariant-loop-choice : goal.invariant-loop-choice
invariant-loop-choice l = is_among (data_of l.value) (items_of (drop l.choice-index l.choices)) ≡ is_among (data_of l.value) (items_of l.choices)
