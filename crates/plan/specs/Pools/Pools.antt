-- Pools: the values that samples may hold, repeats among them (this project's own).
use Rattle.std.specs.Prelude.{◌≡◌, ◌≤◌, ℕ, ℤ, List, [], ◌∷◌, length, Bool, Option, Some, None, option_and_then}
use Rattle.jtree.specs.Data.{Data, list, Items, no_items, item, Members}
use Rattle.jtree.specs.Path.{member_at}
use Rattle.schema.specs.Document.Texts.{is_among}
use Rattle.stored.specs.Objects.Fault.{members_count}
use Rattle.plan.specs.declared.pool_limits.PoolLimits.{PoolLimits}

pub record Pools : Type 0 where
  pub integers : List ℤ
  -- integers and other numbers, for places of numbers
  pub numbers : List Data
  pub strings : List (List ℕ)
  pub names : List (List ℕ)
  pub any : List Data
  -- lists of values, each under the text of the path of a field
  pub paths : Members
  -- lists of all values that there can be, each under the text of a path
  pub fixed : Members
  -- the texts of the paths that are always there
  pub present : List (List ℕ)

abbrev pub items_list : Items → List Data
items_list no_items = []
items_list (item d ds) = d ∷ items_list ds

abbrev pub entries_in : Data → Option (List Data)
entries_in (list ds) = Some (items_list ds)
entries_in _ = None

-- the values at the path of a text, where the pools have a list for it
abbrev pub list_at : List ℕ → Pools → Option (List Data)
list_at text P = option_and_then entries_in (member_at text P.paths)

-- all values that there can be at the path of a text, where the pools fix them
abbrev pub fixed_at : List ℕ → Pools → Option (List Data)
fixed_at text P = option_and_then entries_in (member_at text P.fixed)

-- the path of a text is always there
abbrev pub is_present : List ℕ → Pools → Bool
is_present text P = is_among text P.present

-- the same pools with other fixed values and other paths that are always there
abbrev pub with_paths : Pools → Members → List (List ℕ) → Pools
with_paths P fixed present = record { integers = P.integers; numbers = P.numbers; strings = P.strings; names = P.names; any = P.any; paths = P.paths; fixed = fixed; present = present }

-- the most integers, numbers, strings, trees of any kind, or values at a path; the most names; and the most paths under each of `paths`,
-- `fixed` and `present`
abbrev pub standard : PoolLimits
standard = record { entries = 64; names = 32; paths = 64 }

abbrev pub large : PoolLimits
large = record { entries = 1024; names = 32; paths = 1024 }

-- entries count as written, each repeat
pub record AreSmall (limits : PoolLimits) (P : Pools) : Type 0 where
  pub integers : length P.integers ≤ limits.entries
  pub numbers : length P.numbers ≤ limits.entries
  pub strings : length P.strings ≤ limits.entries
  pub names : length P.names ≤ limits.names
  pub any : length P.any ≤ limits.entries
  pub paths : members_count P.paths ≤ limits.paths
  pub at_paths : (text : List ℕ) (ds : List Data) → list_at text P ≡ Some ds → length ds ≤ limits.entries
  pub fixed : members_count P.fixed ≤ limits.paths
  pub at_fixed : (text : List ℕ) (ds : List Data) → fixed_at text P ≡ Some ds → length ds ≤ limits.entries
  pub present : length P.present ≤ limits.paths
