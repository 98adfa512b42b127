-- What stands under the keywords of a schema as it is written (apiextensions.k8s.io/v1, JSONSchemaProps). A keyword that is null is absent,
-- and where there is no schema no keyword is there.
use Rattle.std.specs.Prelude.{ℕ, List, Bool, true, false, Option, Some, None, codes}
use Rattle.std.specs.Option.{is_some}
use Rattle.jtree.specs.Data.{Data, null, boolean, object}
use Rattle.jtree.specs.Path.{member_at}

abbrev pub unless_null : Option Data → Option Data
unless_null (Some null) = None
unless_null o = o

abbrev pub keyword : List ℕ → Option Data → Option Data
keyword word (Some (object ks)) = unless_null (member_at word ks)
keyword word _ = None

abbrev pub is_true : Option Data → Bool
is_true (Some (boolean b)) = b
is_true _ = false

abbrev pub first_there : Option Data → Option Data → Option Data
first_there None o = o
first_there (Some d) o = Some d

-- ---- the schemas below

-- of a member: by its name under `properties`, and else `additionalProperties`, which can be true in place of a schema
abbrev pub member_schema : List ℕ → Option Data → Option Data
member_schema k s = first_there (keyword k (keyword (codes "properties") s)) (keyword (codes "additionalProperties") s)

abbrev pub is_declared : List ℕ → Option Data → Bool
is_declared k s = is_some (member_schema k s)

-- of each item
abbrev pub item_schema : Option Data → Option Data
item_schema s = keyword (codes "items") s

abbrev pub is_schema : Option Data → Bool
is_schema (Some (object ks)) = true
is_schema _ = false

-- ---- what a schema says of its own value

abbrev pub keeps_undeclared : Option Data → Bool
keeps_undeclared s = is_true (keyword (codes "x-kubernetes-preserve-unknown-fields") s)

-- the value is a resource, with `apiVersion`, `kind` and `metadata`
abbrev pub is_embedded : Option Data → Bool
is_embedded s = is_true (keyword (codes "x-kubernetes-embedded-resource") s)

abbrev pub is_nullable : Option Data → Bool
is_nullable s = is_true (keyword (codes "nullable") s)

abbrev pub default_of : Option Data → Option Data
default_of s = keyword (codes "default") s
