-- The patterns that are refused, as the code has them.
use Rattle.std.specs.Prelude.{string_bytes}
use Rattle.crdx.specs.Program.RefusedPatterns.{Refused}
use Rattle.crdx.specs.declared.running.schema_patterns.RefusedPattern.{RefusedPattern}

abbrev pub refused_of : RefusedPattern → Refused
refused_of r = record { pattern = record { pointer = string_bytes r.pointer; text = string_bytes r.text }; fault = r.fault }
