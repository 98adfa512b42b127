use Rattle.std.proofs.Common.{◌≡◌, ℕ, List, ◌++◌, string_bytes}
use Rattle.std.specs.Str.Iter.{chars_rest}
use Rattle.jtree.specs.Pointer.{name_token}
use Rattle.jtree.proofs.pointer.name_text.Given as goal

abbrev pub invariant-loop-letter : goal.invariant-loop-letter
invariant-loop-letter l = record {
  done : List ℕ;
  name : l.name ≡ done ++ chars_rest l.letter-iterator;
  token : string_bytes l.token ≡ name_token done;
}
