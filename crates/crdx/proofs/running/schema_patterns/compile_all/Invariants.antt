use Rattle.std.proofs.Common.{map, take}
use Rattle.judge.specs.Patterns.{reported}
use Rattle.crdx.specs.Internal.PatternsFound.{refused_of}
use Rattle.crdx.specs.Program.RefusedPatterns.{AreRefusedOf}
use Rattle.crdx.proofs.running.schema_patterns.compile_all.Given as goal

abbrev pub invariant-loop-pattern : goal.invariant-loop-pattern
invariant-loop-pattern l = AreRefusedOf (map reported (take l.pattern-index l.found)) (map refused_of l.compiled.refused.items)
