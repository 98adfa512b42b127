-- Defaulting by a schema as it is written (apiextensions.k8s.io/v1, "defaulting" and "nullable"): a property that is absent, or a null
-- that is not nullable, gets its default. So does a null that is a member of `additionalProperties` or an item. What is then there is
-- filled in turn, defaults with it.
use Rattle.std.specs.Prelude.{ℕ, zero, suc, List, Option, Some, None, if◌then◌else◌, codes}
use Rattle.std.specs.Option.{is_some}
use Rattle.jtree.specs.Data.{Data, null, list, object, Items, no_items, item, Members, no_members, member, depth}
use Rattle.jtree.specs.Path.{member_at}
use Rattle.jtree.specs.MemberPlace.{with_member}
use Rattle.cluster.specs.Keywords.{keyword, member_schema, item_schema, is_nullable, default_of}

-- ---- properties that are absent

abbrev pub with_default : List ℕ → Option Data → Members → Members
with_default k None ms = ms
with_default k (Some d) ms = if is_some (member_at k ms) then ms else with_member k d ms

-- of each property
abbrev pub with_each_default : Members → Members → Members
with_each_default no_members ms = ms
with_each_default (member k p ps) ms = with_each_default ps (with_default k (default_of (Some p)) ms)

abbrev pub with_defaults : Option Data → Members → Members
with_defaults (Some (object ps)) ms = with_each_default ps ms
with_defaults _ ms = ms

-- ---- nulls that are not nullable

abbrev pub or_null : Option Data → Data
or_null None = null
or_null (Some d) = d

abbrev pub settled : Data → Data → Data
settled s null = if is_nullable (Some s) then null else or_null (default_of (Some s))
settled s v = v

-- ---- below

-- what a schema makes of a value
abbrev pub Filling : Type 0
Filling = Data → Data → Data

abbrev pub filled_part : Filling → Option Data → Data → Data
filled_part fill None d = d
filled_part fill (Some s) d = fill s (settled s d)

abbrev pub filled_members : Filling → Option Data → Members → Members
filled_members fill s no_members = no_members
filled_members fill s (member k d ms) = member k (filled_part fill (member_schema k s) d) (filled_members fill s ms)

abbrev pub filled_items : Filling → Option Data → Items → Items
filled_items fill s no_items = no_items
filled_items fill s (item d ds) = item (filled_part fill s d) (filled_items fill s ds)

-- a value, where it is known how the schemas below fill theirs
abbrev pub filled_by : Filling → Data → Data → Data
filled_by fill s (object ms) = object (filled_members fill (Some s) (with_defaults (keyword (codes "properties") (Some s)) ms))
filled_by fill s (list ds) = list (filled_items fill (item_schema (Some s)) ds)
filled_by fill s v = v

-- down to a depth of the schema
abbrev pub filled_to : ℕ → Data → Data → Data
filled_to zero s v = v
filled_to (suc n) (object ks) v = filled_by (filled_to n) (object ks) v
filled_to (suc n) _ v = v

-- down to its end
abbrev pub filled : Data → Data → Data
filled s v = filled_to (depth s) s v
