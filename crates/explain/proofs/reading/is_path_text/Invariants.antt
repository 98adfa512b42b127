use Rattle.std.proofs.Common.{◌≡◌, drop}
use Rattle.explain.specs.Internal.Reading.{is_read}
use Rattle.explain.specs.declared.reading.Stage.TheVariants.{Between}
use Rattle.explain.proofs.reading.is_path_text.Given as goal

-- the rest is read without a fault from here exactly where the whole is
abbrev pub invariant-loop-byte : goal.invariant-loop-byte
invariant-loop-byte l = is_read l.stage (drop l.byte-index l.byte-items) ≡ is_read Between l.text
