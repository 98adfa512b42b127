use Rattle.std.proofs.Common.{◌≡◌, ℕ, List, ◌++◌, string_bytes}
use Rattle.std.specs.Str.Iter.{chars_rest}
use Rattle.explain.specs.Paths.FieldPath.{field}
use Rattle.explain.specs.Paths.PathText.{step_text}
use Rattle.explain.proofs.path_text.push_name.Given as goal

abbrev pub invariant-loop-letter : goal.invariant-loop-letter
invariant-loop-letter l = record {
  done : List ℕ;
  name : l.name ≡ done ++ chars_rest l.letter-iterator;
  text : string_bytes l.text ≡ string_bytes l.fn.text ++ step_text (field done);
}
