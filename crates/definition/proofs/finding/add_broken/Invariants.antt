use Rattle.std.proofs.Common.{◌≡◌, drop}
use Rattle.jtree.specs.View.{data_of}
use Rattle.definition.specs.Internal.ByLevel.{broken_of, progress, added}
use Rattle.definition.proofs.finding.add_broken.Given as goal

-- with the rules that are left, all is reported
abbrev pub invariant-loop-rule : goal.invariant-loop-rule
invariant-loop-rule l =
    added (progress l.walk) (broken_of l.part (data_of l.tree) (drop l.rule-index l.rules)) ≡ added (progress l.initial.walk) (broken_of l.part (data_of l.tree) l.rules)
