-- The patterns of a schema, each with its place, in path order (the order is this project's own). Which keywords have schemas below them is
-- said in apiextensions.k8s.io/v1, JSONSchemaProps.
use Rattle.std.specs.Prelude.{◌≡◌, ℕ, List, [], ◌∷◌, map, All, AllPairs, Contains, Bool, Some, if◌then◌else◌, ◌||◌, codes, string_bytes}
use Rattle.std.specs.Str.{bytes_eq}
use Rattle.std.specs.declared.cmp.Ordering.TheVariants.{Less}
use Rattle.jtree.specs.Data.{Data, Members, object}
use Rattle.jtree.specs.Data as tree
use Rattle.jtree.specs.Path.{Step, name, index, Path, member_at, part_at}
use Rattle.jtree.specs.PathOrder.{path_cmp}
use Rattle.jtree.specs.Pointer.{pointer}
use Rattle.judge.specs.declared.listing.SchemaPattern.{SchemaPattern}

-- ---- schemas in a schema

-- what a part of a schema is: a schema, a list of schemas, schemas by name, or anything else
pub data Role : Type 0 where
  a_schema : Role
  schema_list : Role
  named_schemas : Role
  other : Role

abbrev pub has_schema : List ℕ → Bool
has_schema k = bytes_eq k (codes "items") || bytes_eq k (codes "additionalProperties") || bytes_eq k (codes "not")

abbrev pub has_list : List ℕ → Bool
has_list k = bytes_eq k (codes "allOf") || bytes_eq k (codes "anyOf") || bytes_eq k (codes "oneOf")

-- what stands under a keyword
abbrev pub role_under : List ℕ → Role
role_under k = if has_schema k then a_schema else if has_list k then schema_list else if bytes_eq k (codes "properties") then named_schemas else other

-- what stands at a step from a part, and at a path from it
abbrev pub role_by : Role → Step → Role
role_by a_schema (name k) = role_under k
role_by schema_list (index i) = a_schema
role_by named_schemas (name k) = a_schema
role_by _ _ = other

abbrev pub role_at : Role → Path → Role
role_at r [] = r
role_at r (s ∷ path) = role_at (role_by r s) path

-- a schema has another at a path, to any depth
abbrev pub IsSchemaAt : Data → Path → Data → Type 0
IsSchemaAt raw path s = (role_at a_schema path ≡ a_schema) × (part_at raw path ≡ Some s)

-- the schema at a path has the pattern
abbrev pub HasPattern : Data → Path → List ℕ → Type 0
HasPattern raw path p = (ks : Members) × IsSchemaAt raw path (object ks) × (member_at (codes "pattern") ks ≡ Some (tree.text p))

-- ---- all of them, in order

-- a pattern, by the path of its schema and its text
pub record PatternAt : Type 0 where
  pub path : Path
  pub text : List ℕ

pub record AreAllPatterns (Has : Path → List ℕ → Type 0) (fs : List PatternAt) : Type 0 where
  pub each : All (λ f. Has f.path f.text) fs
  pub all : (path : Path) (p : List ℕ) → Has path p → Contains fs (record { path = path; text = p })
  pub ascending : AllPairs (λ f g. path_cmp f.path g.path ≡ Less) fs

-- a pattern as the pointer of its path and its text
pub record ReportedPattern : Type 0 where
  pub pointer : List ℕ
  pub text : List ℕ

abbrev pub reported : SchemaPattern → ReportedPattern
reported f = record { pointer = string_bytes f.pointer; text = f.text.now }

abbrev pub reported_of : PatternAt → ReportedPattern
reported_of f = record { pointer = pointer f.path; text = f.text }

-- these are all patterns of the schema, in order, each once
abbrev pub ArePatterns : Data → List SchemaPattern → Type 0
ArePatterns raw found = (fs : List PatternAt) × AreAllPatterns (HasPattern raw) fs × (map reported found ≡ map reported_of fs)
