-- Which bytes are which tree: the value that `serde_json` reads, where all its numbers are integers of 64 bits.
use Rattle.std.specs.Prelude.{◌≡◌, ◌+◌, ◌≤◌, ◌<◌, ℕ, List, length, Option, Some, None, option_map, option_and_then}
use Rattle.std.specs.Io.KnownBytes.{Consumes}
use Rattle.std.specs.Str.{IsUtf8}
use Rattle.serde_json.specs.Data as json
use Rattle.serde_json.specs.Find.{as_i64}
use Rattle.serde_json.specs.Read.{read}
use Rattle.jtree.specs.Data.{Data, null, boolean, integer, text, list, object, Items, no_items, item, Members, no_members, member, depth}
use Rattle.jtree.specs.OnlyIntegers.{HasOnlyIntegers}
use Rattle.jtree.specs.declared.fault.JFault.{JFault}
use Rattle.jtree.specs.declared.fault.JFault.TheVariants.{NotAnInteger, NoMemory, NotJson, TooLong, ReadFailed}

-- the tree that a JSON value is, or none where some number is not an integer of 64 bits: `serde_json` holds `-0` and `1e2` as floats,
-- and reads no value of `1e999`
abbrev mutual
  pub tree_of : json.Data → Option Data
  tree_of json.null = Some null
  tree_of (json.boolean b) = Some (boolean b)
  tree_of (json.number n) = option_map integer (as_i64 n)
  tree_of (json.string s) = Some (text s)
  tree_of (json.array ds) = option_map list (items_tree ds)
  tree_of (json.object ms) = option_map object (members_tree ms)

  pub items_tree : json.Items → Option Items
  items_tree json.no_items = Some no_items
  items_tree (json.item d ds) = option_and_then (λ t. option_map (item t) (items_tree ds)) (tree_of d)

  pub members_tree : json.Members → Option Members
  members_tree json.no_members = Some no_members
  members_tree (json.member k d ms) = option_and_then (λ t. option_map (member k t) (members_tree ms)) (tree_of d)

-- the longest document that is read
abbrev pub most_bytes : ℕ
most_bytes = 1048576

-- the bytes are UTF-8, and `serde_json` reads this value of them
abbrev pub IsJson : List ℕ → json.Data → Type 0
IsJson bytes v = IsUtf8 bytes × (read bytes ≡ Some v)

-- the bytes are this tree
abbrev pub Reads : List ℕ → Data → Type 0
Reads bytes d = (length bytes ≤ most_bytes) × (v : json.Data) × IsJson bytes v × (tree_of v ≡ Some d)

-- `serde_json` reads no value of the bytes
abbrev pub IsNoJson : List ℕ → Type 0
IsNoJson bytes = (v : json.Data) → IsJson bytes v → ⊥

-- `serde_json` reads a value, and some number of it is not an integer of 64 bits
abbrev pub HasOtherNumber : List ℕ → Type 0
HasOtherNumber bytes = (v : json.Data) × IsJson bytes v × (tree_of v ≡ None)

-- why bytes are not a document; running out of memory says nothing of them, and where the bytes are at hand no read has failed
abbrev pub IsNoDocument : List ℕ → JFault → Type 0
IsNoDocument bytes TooLong = most_bytes < length bytes
IsNoDocument bytes NotJson = (length bytes ≤ most_bytes) × IsNoJson bytes
IsNoDocument bytes NotAnInteger = (length bytes ≤ most_bytes) × HasOtherNumber bytes
IsNoDocument bytes NoMemory = Unit {0}
IsNoDocument bytes ReadFailed = ⊥

-- of the bytes still to come, where they are known, a beginning was taken: at most one byte more than a document has
abbrev pub HasTaken : Option (List ℕ) → Option (List ℕ) → Type 0
HasTaken old new = (taken : List ℕ) × Consumes old new taken × (length taken ≤ most_bytes + 1)

-- The deepest nesting that is read.
abbrev pub most_depth : ℕ
most_depth = 127

-- the text reads as the tree, where its numbers are integers, the tree nests no deeper and the text is no longer than what is read
abbrev pub ReadsBack : Data → List ℕ → Type 0
ReadsBack d bytes = HasOnlyIntegers d → depth d ≤ most_depth → length bytes ≤ most_bytes → Reads bytes d
