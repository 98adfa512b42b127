-- For private contracts: what is known of a place on the way down to it.
use Rattle.std.specs.Prelude.{◌≡◌, ◌↔◌, ℕ, List, [], ◌∷◌, ◌++◌, Bool, true, false, Option, Some, option_map, option_and_then, if◌then◌else◌, IsTrue, nat_eq, codes}
use Rattle.jtree.specs.Data.{Data, object}
use Rattle.jtree.specs.Path.{under, part_at}
use Rattle.schema.specs.Document.Places.{Step, all_of, any_of, Place, step_path, schema_by, schema_at, is_junctor, is_inside, core}
use Rattle.schema.specs.Internal.Events.{Junctor, all, any, one, Part, a_schema, properties, branches, no_schema}
use Rattle.schema.specs.Rules.Broken.{IsPatternBranch}
use Rattle.schema.specs.declared.context.Context.{Context}

-- steps into an `anyOf`, and into the first entry of an `allOf`
abbrev pub is_any : Step → Bool
is_any (any_of i) = true
is_any _ = false

abbrev pub is_first_of_all : Step → Bool
is_first_of_all (all_of i) = nat_eq i 0
is_first_of_all _ = false

-- the schema at the core of a place, one step on
abbrev pub outer_by : Option Data → Step → Option Data
outer_by o s = if is_junctor s then o else option_and_then (λ t. schema_by t s) o

pub record IsContext (raw : Data) (p : Place) (s : Data) (c : Context) : Type 0 where
  pub is : schema_at raw p ≡ Some s
  pub outer_is : option_map (λ m. object m.now) c.outer ≡ schema_at raw (core p)
  pub inside_is : c.is_inside ≡ is_inside p
  pub pattern_is : IsTrue c.in_pattern ↔ IsPatternBranch raw p
  pub any_is : (i : ℕ) → IsTrue c.any_are ↔ IsPatternBranch raw (p ++ (any_of i ∷ []))
  pub all_is : (i : ℕ) → IsTrue c.all_are ↔ IsPatternBranch raw (p ++ (all_of 0 ∷ any_of i ∷ []))

-- the keyword of a list of branches
abbrev pub junctor_keyword : Junctor → List ℕ
junctor_keyword all = codes "allOf"
junctor_keyword any = codes "anyOf"
junctor_keyword one = codes "oneOf"

-- the schema has the value as this part
abbrev pub HasPart : Data → Part → Data → Type 0
HasPart s (a_schema step) d = part_at s (step_path step) ≡ Some d
HasPart s properties d = under s (codes "properties") ≡ Some d
HasPart s (branches j) d = under s (junctor_keyword j) ≡ Some d
HasPart s no_schema d = Unit {0}
