-- A line that is too long is so among the lines that come.
use Rattle.std.proofs.Common.{ℕ, List, Option, Some, None}
use Rattle.jtree.specs.Lines.{TakesLongLine}
use Rattle.crdx_tests.specs.ComingLines.{AreComing}
use Rattle.crdx.specs.Program.InputFault.{TakesLongLine as TakesLongComing}

pub long_line : (old new : Option (List ℕ)) → TakesLongLine old new → TakesLongComing (AreComing old) (AreComing new)
long_line None new (line, takes, long) = record { line = line; long = long; takes = λ lines later. tt }
long_line (Some bytes) None (line, takes, long) = absurd takes
long_line (Some bytes) (Some rest) (line, first, long) = record { line = line; long = long; takes = λ lines later. (rest, first, later) }
