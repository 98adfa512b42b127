use Rattle.std.proofs.Common.{◌≡◌, take, true}
use Rattle.std.specs.List.{list_all}
use lib.Utf8.{scalar}
use Rattle.cel_read.specs.View.{text_of}
use Rattle.cel_read.proofs.lexing.decoded.Given as goal

abbrev pub invariant-loop-value : goal.invariant-loop-value
invariant-loop-value l = record {
  written : text_of l.text ≡ take l.value-index l.values;
  scalars : list_all scalar (take l.value-index l.values) ≡ true;
}
