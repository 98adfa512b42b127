-- Maps that are written out. A key that is given twice is not judged: the language definition (langdef.md) has an error there, and cel-go, which a
-- cluster runs, keeps the last value. Nor is a map judged whose key is neither a boolean nor an integer nor a string.
use Rattle.std.specs.Prelude.{Bool, true, false, not, ◌&&◌, Result, Ok, Err, Option, Some, None, if◌then◌else◌}
use Rattle.std.specs.Option.{is_some}
use Rattle.cel_ast.specs.Syntax.{Constant}
use Rattle.cel_ast.specs.Syntax as constant
use Rattle.cel_value.specs.Data.{Value, null, boolean, integer, string, map, Key, Entries, no_entries, entry}
use Rattle.cel_value.specs.Same.{value_at}
use Rattle.cel_value.specs.Map.{key_of}
use Rattle.cel_eval.specs.declared.stop.Stop.{Stop}
use Rattle.cel_eval.specs.declared.stop.Stop.TheVariants.{NotJudged}
use Rattle.cel_eval.specs.declared.stop.Reason.TheVariants.{KeyType, RepeatedKey, Optional, Unsigned, Double, Bytes}
use Rattle.cel_eval.specs.Outcome.{Outcome, value, stopped, not_judged}

-- what a literal stands for
abbrev pub constant_value : Constant → Outcome
constant_value constant.null = value null
constant_value (constant.boolean b) = value (boolean b)
constant_value (constant.integer z) = value (integer z)
constant_value (constant.string t) = value (string t)
constant_value (constant.unsigned t) = not_judged Unsigned
constant_value (constant.double t) = not_judged Double
constant_value constant.bytes = not_judged Bytes

abbrev pub key_or_stop : Option Key → Result Key Stop
key_or_stop None = Err (NotJudged KeyType)
key_or_stop (Some k) = Ok k

abbrev pub as_key : Outcome → Result Key Stop
as_key (value v) = key_or_stop (key_of v)
as_key (stopped s) = Err s

-- a key with its value; the first stop is the answer
abbrev pub pair_of : Result Key Stop → Outcome → Result (Key × Value) Stop
pair_of (Err s) o = Err s
pair_of (Ok k) (stopped s) = Err s
pair_of (Ok k) (value v) = Ok (k, v)

-- an entry in front; the first stop is the answer
abbrev pub put_entry : Result (Key × Value) Stop → Result Entries Stop → Result Entries Stop
put_entry (Err s) es = Err s
put_entry (Ok p) (Err s) = Err s
put_entry (Ok p) (Ok es) = Ok (entry p.0 p.1 es)

-- an element or an entry is not judged where a `?` stands before it
abbrev pub required : Bool → Outcome → Outcome
required true o = not_judged Optional
required false o = o

abbrev pub are_distinct : Entries → Bool
are_distinct no_entries = true
are_distinct (entry k v es) = not (is_some (value_at k es)) && are_distinct es

abbrev pub made_map : Result Entries Stop → Outcome
made_map (Err s) = stopped s
made_map (Ok es) = if are_distinct es then value (map es) else not_judged RepeatedKey
