use Rattle.std.proofs.Common.{◌≡◌, drop, bytes_eq}
use Rattle.formats.specs.Names.{without_dashes}
use Rattle.formats.proofs.format.spells.Given as goal

abbrev pub invariant-loop-byte : goal.invariant-loop-byte
invariant-loop-byte l = bytes_eq (without_dashes (drop l.byte-index l.byte-items)) l.rest ≡ bytes_eq (without_dashes l.name) l.word
