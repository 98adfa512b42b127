use Rattle.std.proofs.Common.{◌≡◌, drop}
use Rattle.jtree.specs.View.{items_of}
use Rattle.definition.specs.Broken.{repeats_name}
use Rattle.definition.proofs.breaking.repeats_name.Given as goal

abbrev pub invariant-loop-i : goal.invariant-loop-i
invariant-loop-i l = repeats_name (items_of (drop l.i l.versions)) ≡ repeats_name (items_of l.versions)
