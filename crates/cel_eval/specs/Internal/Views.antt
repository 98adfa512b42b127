-- A key and an entry that were made.
use Rattle.std.specs.Prelude.{Result, Ok, Err}
use Rattle.cel_value.specs.Data as plain
use Rattle.cel_value.specs.View.{key_of, value_of}
use Rattle.cel_value.specs.declared.value.Key.{Key}
use Rattle.cel_value.specs.declared.value.Entry.{Entry}
use Rattle.cel_eval.specs.declared.stop.Stop.{Stop}

abbrev pub key_found : Result Key Stop → Result plain.Key Stop
key_found (Ok k) = Ok (key_of k)
key_found (Err s) = Err s

abbrev pub pair_found : Result Entry Stop → Result (plain.Key × plain.Value) Stop
pair_found (Ok e) = Ok (key_of e.key, value_of e.value)
pair_found (Err s) = Err s
