-- The parts of a tree: a path is a list of names and indexes, and the empty path leads to the tree itself
-- (JSON, RFC 8259).
use Rattle.std.specs.Prelude.{ℕ, zero, suc, List, [], ◌∷◌, Option, Some, None, option_and_then, if◌then◌else◌}
use Rattle.std.specs.Str.{bytes_eq}
use Rattle.jtree.specs.Data.{Data, list, object, Items, no_items, item, Members, no_members, member}

-- to the member of a name, or to the item at an index, counted from 0
pub data Step : Type 0 where
  name : List ℕ → Step
  index : ℕ → Step

abbrev pub Path : Type 0
Path = List Step

-- the value under a name
abbrev pub member_at : List ℕ → Members → Option Data
member_at k no_members = None
member_at k (member l d ms) = if bytes_eq k l then Some d else member_at k ms

-- the item at an index
abbrev pub item_at : ℕ → Items → Option Data
item_at i no_items = None
item_at zero (item d ds) = Some d
item_at (suc i) (item d ds) = item_at i ds

-- names lead into objects alone, and indexes into lists alone
abbrev pub part_by : Data → Step → Option Data
part_by (list ds) (index i) = item_at i ds
part_by (object ms) (name k) = member_at k ms
part_by _ _ = None

-- the part of a tree to which a path leads
abbrev pub part_at : Data → Path → Option Data
part_at d [] = Some d
part_at d (s ∷ path) = option_and_then (λ e. part_at e path) (part_by d s)

-- the value under a name, under a name below another, and under one below these
abbrev pub under : Data → List ℕ → Option Data
under d k = part_by d (name k)

abbrev pub under2 : Data → List ℕ → List ℕ → Option Data
under2 d k l = part_at d (name k ∷ name l ∷ [])

abbrev pub under3 : Data → List ℕ → List ℕ → List ℕ → Option Data
under3 d k l m = part_at d (name k ∷ name l ∷ name m ∷ [])
