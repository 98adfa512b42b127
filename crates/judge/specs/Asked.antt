-- The places of a value, and the schemas that are asked there. A schema is asked with the branches of its `allOf`, and theirs, but of null
-- alone. A name that is required and missing has a place too.
use Rattle.std.specs.Prelude.{ℕ, List, [], ◌∷◌, ◌++◌, map, Bool, false, Option, Some, None, option_and_then, if◌then◌else◌, ◌||◌, codes}
use Rattle.std.proofs.Common.{Bor}
use Rattle.std.specs.Str.{bytes_eq}
use Rattle.jtree.specs.Data.{Data, null, list, object, Items, no_items, item, Members, no_members, member}
use Rattle.jtree.specs.Path.{Step, name, index, Path, member_at, item_at}
use Rattle.jtree.specs.View.{data_of}
use Rattle.jtree.specs.declared.value.Tree.{Tree}
use Rattle.judge.specs.Keywords.{names, repeats}
use Rattle.judge.specs.Meets.{first_there}

-- the schemas that a list of references holds
abbrev pub schemas_of : List (Bor Tree) → List Data
schemas_of ts = map (λ t. data_of t.now) ts

abbrev mutual
  -- a schema and the branches of its `allOf`
  pub closure : Data → List Data
  closure (object ks) = object ks ∷ keyword_closure ks
  closure s = s ∷ []

  pub keyword_closure : Members → List Data
  keyword_closure no_members = []
  keyword_closure (member k d ks) = (if bytes_eq k (codes "allOf") then branch_closure d else []) ++ keyword_closure ks

  pub branch_closure : Data → List Data
  branch_closure (list ds) = item_closure ds
  branch_closure s = []

  pub item_closure : Items → List Data
  item_closure no_items = []
  item_closure (item d ds) = closure d ++ item_closure ds

abbrev pub named : List ℕ → Option Data → Option Data
named k (Some (object ps)) = member_at k ps
named k _ = None

-- the schema of a member: that of its name under `properties`, and else `additionalProperties`
abbrev pub member_schema : List ℕ → Data → Option Data
member_schema k (object ks) = first_there (named k (member_at (codes "properties") ks)) (member_at (codes "additionalProperties") ks)
member_schema k _ = None

-- the schema of each item
abbrev pub item_schema : Data → Option Data
item_schema (object ks) = member_at (codes "items") ks
item_schema _ = None

-- the schemas that are asked of a value with a schema
abbrev pub asked : Data → Data → List Data
asked null s = s ∷ []
asked v s = closure s

abbrev pub asked_if : Data → Option Data → List Data
asked_if v None = []
asked_if v (Some s) = asked v s

-- the schemas of a part, by a choice of one in each schema
abbrev pub below : (Data → Option Data) → Data → List Data → List Data
below part v [] = []
below part v (s ∷ ss) = asked_if v (part s) ++ below part v ss

-- the names that are required by some schemas
abbrev pub required_by : Data → List (List ℕ)
required_by (object ks) = names (member_at (codes "required") ks)
required_by _ = []

abbrev pub required : List Data → List (List ℕ)
required [] = []
required (s ∷ ss) = required_by s ++ required ss

abbrev pub is_among : List ℕ → List (List ℕ) → Bool
is_among k [] = false
is_among k (l ∷ ls) = bytes_eq k l || is_among k ls

-- the item at an index repeats an earlier one by one of the schemas
abbrev pub repeats_by : Data → Items → ℕ → Bool
repeats_by (object ks) ds i = repeats ks ds i
repeats_by _ ds i = false

abbrev pub some_repeats : List Data → Items → ℕ → Bool
some_repeats [] ds i = false
some_repeats (s ∷ ss) ds i = repeats_by s ds i || some_repeats ss ds i

-- ---- places

-- a value with the schemas that are asked of it, and whether it repeats an earlier item; or the place of a missing name
pub data Place : Type 0 where
  value_at : List Data → Bool → Data → Place
  missing : Place

abbrev pub root : Data → Data → Place
root s v = value_at (asked v s) false v

abbrev pub member_place : List Data → List ℕ → Option Data → Option Place
member_place ss k (Some w) = Some (value_at (below (member_schema k) w ss) false w)
member_place ss k None = if is_among k (required ss) then Some missing else None

abbrev pub item_place : List Data → Items → ℕ → Option Data → Option Place
item_place ss ds i None = None
item_place ss ds i (Some w) = Some (value_at (below item_schema w ss) (some_repeats ss ds i) w)

-- the place at a step from a value
abbrev pub place_by : List Data → Data → Step → Option Place
place_by ss (object ms) (name k) = member_place ss k (member_at k ms)
place_by ss (list ds) (index i) = item_place ss ds i (item_at i ds)
place_by ss _ _ = None

abbrev pub next_place : Place → Step → Option Place
next_place (value_at ss repeated v) s = place_by ss v s
next_place missing s = None

-- the place at a path from another
abbrev pub place_at : Place → Path → Option Place
place_at p [] = Some p
place_at p (s ∷ path) = option_and_then (λ q. place_at q path) (next_place p s)
