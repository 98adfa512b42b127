-- The limits of a schema (this project's own): the most places, branches of junctors among them; the most steps of a place; the
-- most members of `properties`; the most entries of `required`, `x-kubernetes-list-map-keys` and `enum`. Entries count as written.
use Rattle.std.specs.Prelude.{◌≡◌, ◌<◌, ◌↔◌, ℕ, suc, List, [], ◌∷◌, ◌++◌, length, Option, Some, None, if◌then◌else◌, codes, AllPairs, Contains}
use Rattle.std.specs.Str.{bytes_eq}
use Rattle.std.specs.declared.cmp.Ordering.TheVariants.{Less}
use Rattle.jtree.specs.Data.{Data, Items, no_items, item, Members, no_members, member}
use Rattle.jtree.specs.Data as tree
use Rattle.jtree.specs.Path.{Path, name, under}
use Rattle.jtree.specs.PathOrder.{path_cmp, IsFirst}
use Rattle.schema.specs.Document.Places.{Place, IsPlace, schema_at, place_path}
use Rattle.schema.specs.declared.limits.Limited.{Limited}
use Rattle.schema.specs.declared.limits.Limited.TheVariants.{Places, Steps, Properties, Required, MapKeys, Choices}
use Rattle.schema.specs.declared.limits.Limits.{Limits}

-- those of every command
abbrev pub standard : Limits
standard = record { places = 512; steps = 24; properties = 32; required = 32; map_keys = 4; choices = 64 }

-- those of `--large`
abbrev pub large : Limits
large = record { places = 16384; steps = 60; properties = 1024; required = 1024; map_keys = 8; choices = 1024 }

abbrev pub items_len : Items → ℕ
items_len no_items = 0
items_len (item d ds) = suc (items_len ds)

abbrev pub members_len : Members → ℕ
members_len no_members = 0
members_len (member k d ms) = suc (members_len ms)

-- how many members or entries a value has
abbrev pub size : Data → ℕ
size (tree.list ds) = items_len ds
size (tree.object ms) = members_len ms
size _ = 0

-- the limit of what is limited
abbrev pub most : Limits → Limited → ℕ
most limits Places = limits.places
most limits Steps = limits.steps
most limits Properties = limits.properties
most limits Required = limits.required
most limits MapKeys = limits.map_keys
most limits Choices = limits.choices

-- what is limited of a keyword's value: the number of its members or entries
abbrev pub limited_by : List ℕ → Option Limited
limited_by k =
    if bytes_eq k (codes "properties") then Some Properties else
    if bytes_eq k (codes "required") then Some Required else
    if bytes_eq k (codes "x-kubernetes-list-map-keys") then Some MapKeys else
    if bytes_eq k (codes "enum") then Some Choices else None

-- a keyword of a place has too many members or entries
pub record IsTooLong (limits : Limits) (raw : Data) (at : Place) (keyword : List ℕ) : Type 0 where
  pub schema : Data
  pub is : schema_at raw at ≡ Some schema
  pub value : Data
  pub is_there : under schema keyword ≡ Some value
  pub limited : Limited
  pub limit : limited_by keyword ≡ Some limited
  pub past : most limits limited < size value

-- the places, in path order, that come before one
pub record ComeBefore (raw : Data) (at : Place) (places : List Place) : Type 0 where
  pub each : (p : Place) → Contains places p → IsPlace raw p × (path_cmp (place_path p) (place_path at) ≡ Less)
  pub ascending : AllPairs (λ p q. path_cmp (place_path p) (place_path q) ≡ Less) places
  pub all : (p : Place) → IsPlace raw p → path_cmp (place_path p) (place_path at) ≡ Less → Contains places p

-- all places of a schema, in path order
pub record ArePlaces (raw : Data) (places : List Place) : Type 0 where
  pub each : (p : Place) → Contains places p ↔ IsPlace raw p
  pub ascending : AllPairs (λ p q. path_cmp (place_path p) (place_path q) ≡ Less) places

-- what a limit is passed at, by its path; what there is too much of there, and how many there are
pub data PassesBy (limits : Limits) : Data → Path → Limited → ℕ → Type 0 where
  -- the first place after as many as there may be
  too_many_places : (raw : Data) (at : Place) (before all : List Place) → IsPlace raw at → ComeBefore raw at before → length before ≡ limits.places → ArePlaces raw all
      → PassesBy limits raw (place_path at) Places (length all)
  too_deep : (raw : Data) (at : Place) → IsPlace raw at → limits.steps < length at → PassesBy limits raw (place_path at) Steps (length at)
  too_long : (raw : Data) (at : Place) (keyword : List ℕ) (h : IsTooLong limits raw at keyword) → PassesBy limits raw (place_path at ++ (name keyword ∷ [])) h.limited (size h.value)

pub record PassesLimit (limits : Limits) (raw : Data) (path : Path) : Type 0 where
  pub limited : Limited
  pub found : ℕ
  pub by : PassesBy limits raw path limited found

abbrev pub IsWithinLimits : Limits → Data → Type 0
IsWithinLimits limits raw = (path : Path) → PassesLimit limits raw path → ⊥

-- the first such path
abbrev pub IsLimitFault : Limits → Data → Path → Type 0
IsLimitFault limits raw path = IsFirst (PassesLimit limits raw) path
