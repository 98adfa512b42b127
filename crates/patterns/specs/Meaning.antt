-- What a pattern means: it is written in the kit's syntax, the kit's grammar reads that, and a text matches where some part of it does. The
-- construct by construct reading of Go's syntax is `go_text`'s, from Go's documentation of regexp/syntax; the rest is this project's own.
use Rattle.std.specs.Prelude.{ℕ, List, Bool, false, Option, Some, None, option_and_then, if◌then◌else◌, nat_le, is_some, chars}
use Rattle.regex.specs.Patterns.{Re, find_str, default_config}
use Rattle.regex_syntax.specs.Brackets.{Nested}
use Rattle.regex_syntax.specs.Grammar.{Names, read}
use Rattle.go_text.specs.KitSyntax.{in_kit_syntax}

-- how deep groups, repetitions and classes may nest: the kit's limit, where Go's is 1000
abbrev pub most_nesting : ℕ
most_nesting = 250

abbrev pub within_limit : Nested Re × Names → Option Re
within_limit (re, names) = if nat_le re.depth most_nesting then Some re.value else None

-- the expression that characters in the kit's syntax are, if they are one
abbrev pub kit_reading : List ℕ → Option Re
kit_reading written = option_and_then within_limit (read default_config written)

-- the expression that the bytes of a pattern are, if they are one
abbrev pub reading : List ℕ → Option Re
reading pattern = option_and_then kit_reading (in_kit_syntax (chars pattern))

abbrev pub is_pattern : List ℕ → Bool
is_pattern text = is_some (reading text)

-- some part of the text is matched
abbrev pub is_found : Re → List ℕ → Bool
is_found re text = is_some (find_str re text 0)

abbrev pub is_found_by : Option Re → List ℕ → Bool
is_found_by None text = false
is_found_by (Some re) text = is_found re text

-- What is no pattern matches nothing.
abbrev pub matches_pattern : List ℕ → List ℕ → Bool
matches_pattern pattern text = is_found_by (reading pattern) text
