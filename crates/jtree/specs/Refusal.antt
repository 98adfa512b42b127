-- Why bytes are no document, in more words than a fault has: which number is not an integer, or how long they are (this project's own).
use Rattle.std.specs.Prelude.{◌≡◌, ℕ, List, [], ◌∷◌, length, Option, Some, None, option_map, option_and_then, string_bytes}
use Rattle.serde_json.specs.Data as json
use Rattle.serde_json.specs.Find.{get, at, as_i64}
use Rattle.serde_json.specs.Read.{number_of}
use Rattle.jtree.specs.Path.{Step, name, index, Path}
use Rattle.jtree.specs.PathOrder.{IsFirst}
use Rattle.jtree.specs.Pointer.{pointer}
use Rattle.jtree.specs.Reads.{IsJson, IsNoDocument}
use Rattle.jtree.specs.declared.fault.JFault.TheVariants as fault
use Rattle.jtree.specs.declared.refusal.Refusal.{Refusal}
use Rattle.jtree.specs.declared.refusal.Refusal.TheVariants.{NotAnInteger, NotJson, TooLong}

-- the part of a JSON value to which a path leads, as `serde_json` looks it up
abbrev pub value_by : json.Data → Step → Option json.Data
value_by v (name k) = get k v
value_by v (index i) = at i v

abbrev pub value_at : json.Data → Path → Option json.Data
value_at v [] = Some v
value_at v (s ∷ path) = option_and_then (λ w. value_at w path) (value_by v s)

-- the number there is not an integer of 64 bits
abbrev pub IsOtherNumberAt : json.Data → Path → Type 0
IsOtherNumberAt v path = (n : json.Num) × (value_at v path ≡ Some (json.number n)) × (as_i64 n ≡ None)

-- the first such number in path order: a text that is read as it, and the pointer to it
pub record IsFirstOtherNumber (v : json.Data) (written place : List ℕ) : Type 0 where
  pub path : Path
  pub first : IsFirst (IsOtherNumberAt v) path
  pub pointed : place ≡ pointer path
  pub read : option_map json.number (number_of written) ≡ value_at v path

-- why the bytes are no document
abbrev pub IsRefusal : List ℕ → Refusal → Type 0
IsRefusal bytes (NotAnInteger number place) = IsNoDocument bytes fault.NotAnInteger × (v : json.Data) × IsJson bytes v × IsFirstOtherNumber v (string_bytes number) (string_bytes place)
IsRefusal bytes (NotJson line column is_yaml) = IsNoDocument bytes fault.NotJson
IsRefusal bytes (TooLong n) = IsNoDocument bytes fault.TooLong × (n ≡ length bytes)
