use Rattle.std.proofs.Common.{◌≡◌, drop}
use Rattle.jtree.specs.View.{data_of, items_of}
use Rattle.stored.specs.Objects.Tests.{is_choice}
use Rattle.stored.proofs.constraints.is_choice.Given as goal

-- the value is among the choices that are left exactly where it is among all
abbrev pub invariant-loop-choice : goal.invariant-loop-choice
invariant-loop-choice l = is_choice (data_of l.tree) (items_of (drop l.choice-index l.choice-items)) ≡ is_choice (data_of l.tree) l.choices
