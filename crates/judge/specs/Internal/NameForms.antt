-- For private contracts: which bytes and which texts the code's words for forms stand for.
use Rattle.std.specs.Prelude.{ℕ, List, Bool}
use Rattle.std.specs.Char.{is_ascii_alphanumeric}
use Rattle.judge.specs.Envelope.{is_lower, is_hyphen, is_mark, is_any, is_label, is_name, is_qualified_name, is_segment, is_segment_prefix}
use Rattle.judge.specs.declared.envelope.Form.{Form}
use Rattle.judge.specs.declared.envelope.Form.TheVariants as form
use Rattle.judge.specs.declared.names.Letters.{Letters}
use Rattle.judge.specs.declared.names.Letters.TheVariants as letters
use Rattle.judge.specs.declared.names.Marks.{Marks}
use Rattle.judge.specs.declared.names.Marks.TheVariants as marks

abbrev pub letter_of : Letters → ℕ → Bool
letter_of letters.Lower = is_lower
letter_of letters.All = is_ascii_alphanumeric

abbrev pub mark_of : Marks → ℕ → Bool
mark_of marks.Hyphen = is_hyphen
mark_of marks.All = is_mark

abbrev pub test_of : Form → List ℕ → Bool
test_of form.Any = is_any
test_of form.Label = is_label
test_of form.Name = is_name
test_of form.Segment = is_segment
test_of form.SegmentPrefix = is_segment_prefix
test_of form.LabelKey = is_qualified_name is_lower
test_of form.AnnotationKey = is_qualified_name is_ascii_alphanumeric
