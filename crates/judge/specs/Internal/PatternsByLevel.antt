-- For private contracts: all patterns of a part of a schema in order, level by level, and how a walk reports them.
use Rattle.std.specs.Prelude.{ℕ, ◌+◌, List, [], ◌∷◌, ◌++◌, map, Option, Some, codes, string_bytes}
use Rattle.jtree.specs.Data.{Data, list, object, Items, no_items, item, Members, no_members, member}
use Rattle.jtree.specs.Data as tree
use Rattle.jtree.specs.Path.{Step, name, index, member_at}
use Rattle.jtree.specs.Pointer.{pointer}
use Rattle.judge.specs.Patterns.{Role, a_schema, schema_list, named_schemas, other, role_by, PatternAt, ReportedPattern, reported}
use Rattle.judge.specs.declared.listing.Part.{Part}
use Rattle.judge.specs.declared.listing.Part.TheVariants as part
use Rattle.judge.specs.declared.listing.Walk.{Walk}

abbrev pub role_of : Part → Role
role_of part.Schema = a_schema
role_of part.List = schema_list
role_of part.Named = named_schemas
role_of part.Other = other

-- ---- of the schema itself

abbrev pub here : List ℕ → PatternAt
here p = record { path = []; text = p }

abbrev pub here_if : Option Data → List PatternAt
here_if (Some (tree.text p)) = here p ∷ []
here_if _ = []

abbrev pub own : Members → List PatternAt
own ks = here_if (member_at (codes "pattern") ks)

-- ---- of its parts

abbrev pub down : Step → PatternAt → PatternAt
down s f = record { path = s ∷ f.path; text = f.text }

abbrev pub under : Step → List PatternAt → List PatternAt
under s fs = map (down s) fs

abbrev mutual
  pub found : Role → Data → List PatternAt
  found a_schema (object ks) = own ks ++ in_members a_schema ks
  found schema_list (list ds) = in_items ds 0
  found named_schemas (object ms) = in_members named_schemas ms
  found _ _ = []

  pub in_items : Items → ℕ → List PatternAt
  in_items no_items i = []
  in_items (item d ds) i = under (index i) (found a_schema d) ++ in_items ds (i + 1)

  pub in_members : Role → Members → List PatternAt
  in_members r no_members = []
  in_members r (member k d ms) = under (name k) (found (role_by r (name k)) d) ++ in_members r ms

-- ---- as it is reported

-- the pointer of the part that a walk has come to, and what is reported so far
pub record Progress : Type 0 where
  pub pointer : List ℕ
  pub reported : List ReportedPattern

abbrev pub progress : Walk → Progress
progress w = record { pointer = string_bytes w.pointer; reported = map reported w.found.items }

abbrev pub reported_at : List ℕ → PatternAt → ReportedPattern
reported_at at f = record { pointer = at ++ pointer f.path; text = f.text }

abbrev pub added : Progress → List PatternAt → Progress
added p fs = record { pointer = p.pointer; reported = p.reported ++ map (reported_at p.pointer) fs }
