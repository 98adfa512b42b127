-- Pools around an object: at the varied paths nothing is fixed, and all else is as it is in the object, what is absent there too (this
-- project's own).
use Rattle.std.specs.Prelude.{ℕ, List, [], ◌∷◌, ◌++◌, Bool, true, false, Option, Some, None, ◌==◌, ◌&&◌, ◌||◌, if◌then◌else◌, option_and_then, codes}
use Rattle.std.specs.Option.{option_to_list}
use Rattle.std.specs.Str.{bytes_eq}
use Rattle.jtree.specs.Data.{Data}
use Rattle.jtree.specs.Data as tree
use Rattle.jtree.specs.Path.{under}
use Rattle.schema.specs.Document.Texts.{is_among}
use Rattle.schema.specs.Nodes.Node.{Node, node, object, Fields, no_fields, field}
use Rattle.explain.specs.Paths.FieldPath as step
use Rattle.plan.specs.Samples.Site.{below}
use Rattle.suggest.specs.Suggested.LeafValues.{General}
use Rattle.suggest.specs.Suggested.Lists.{Entry, schema_of_field, lists_at, names_at}
use Rattle.suggest.specs.declared.varying.Reach.{Reach}
use Rattle.suggest.specs.declared.varying.Reach.TheVariants.{Undeclared, Missing, There}

-- what is suggested at paths: lists of values, names of the members of maps, fixed values, and the paths that are always there
pub record Suggestions : Type 0 where
  pub lists : List Entry
  pub names : List (List ℕ)
  pub fixed : List Entry
  pub present : List (List ℕ)

abbrev pub nothing : Suggestions
nothing = record { lists = []; names = []; fixed = []; present = [] }

abbrev pub both : Suggestions → Suggestions → Suggestions
both a b = record { lists = a.lists ++ b.lists; names = a.names ++ b.names; fixed = a.fixed ++ b.fixed; present = a.present ++ b.present }

-- lists of what these values have at a node and below it, and nothing that is fixed or always there
abbrev pub lists_alone : General → List Data → Option Data → Option Data → List ℕ → Node → Suggestions
lists_alone G vs default schema path N = record { lists = lists_at G vs default schema path N; names = names_at vs N; fixed = []; present = [] }

-- ---- texts of paths

abbrev pub begins_with : List ℕ → List ℕ → Bool
begins_with [] text = true
begins_with (a ∷ front) (b ∷ text) = a == b && begins_with front text
begins_with _ _ = false

-- the path of the text goes on from this one
abbrev pub goes_on : List ℕ → List ℕ → Bool
goes_on path text = begins_with (path ++ codes "/") text

-- that of one of the texts does
abbrev pub leads_on : List ℕ → List (List ℕ) → Bool
leads_on path [] = false
leads_on path (t ∷ ts) = goes_on path t || leads_on path ts

-- ---- what is suggested for each field

-- as it is in the object: absent, or always there with that one value
abbrev pub as_in_object : List ℕ → Option Data → Suggestions
as_in_object path None = record { lists = []; names = []; fixed = record { path = path; values = [] } ∷ []; present = [] }
as_in_object path (Some v) = record { lists = []; names = []; fixed = record { path = path; values = v ∷ [] } ∷ []; present = path ∷ [] }

-- always there
abbrev pub always_present : List ℕ → Suggestions
always_present path = record { lists = []; names = []; fixed = []; present = path ∷ [] }

-- ts are the texts of the varied paths, v is what the object has at the path, and `inner` is what is suggested below it
abbrev pub suggestions_by_path : General → List (List ℕ) → Option Data → Option Data → Option Data → List ℕ → Node → Suggestions → Suggestions
suggestions_by_path G ts v default schema path N inner =
    if is_among path ts then lists_alone G (option_to_list v) default schema path N else (if leads_on path ts then both (always_present path) inner else as_in_object path v)

abbrev mutual
  pub suggestions_below : General → List (List ℕ) → Option Data → Option Data → List ℕ → Node → Suggestions
  suggestions_below G ts v schema path (node nullable description (object fs preserves type bounds cs)) = suggestions_of_fields G ts v schema path fs
  suggestions_below G ts v schema path N = nothing

  pub suggestions_of_fields : General → List (List ℕ) → Option Data → Option Data → List ℕ → Fields → Suggestions
  suggestions_of_fields G ts v schema path no_fields = nothing
  suggestions_of_fields G ts v schema path (field k N required default fs) =
      both (suggestions_by_path G ts (option_and_then (λ w. under w k) v) default (schema_of_field schema k) (below path (step.field k)) N
      (suggestions_below G ts (option_and_then (λ w. under w k) v) (schema_of_field schema k) (below path (step.field k)) N)) (suggestions_of_fields G ts v schema path fs)

-- at a path and below it
abbrev pub suggestions_at : General → List (List ℕ) → Option Data → Option Data → Option Data → List ℕ → Node → Suggestions
suggestions_at G ts v default schema path N = suggestions_by_path G ts v default schema path N (suggestions_below G ts v schema path N)

-- ---- whether a text can be varied

-- the object has an object to which the field belongs
abbrev pub there_in : Option Data → Reach
there_in (Some (tree.object ms)) = There
there_in _ = Missing

-- Whether the text is that of a declared path of names from this node on, since what is below a list or a map stands at many places; and
-- whether the object has what the last of them belongs to.
abbrev mutual
  pub reach : List ℕ → Option Data → List ℕ → Node → Reach
  reach text v path (node nullable description (object fs preserves type bounds cs)) = reach_by_fields text v path fs
  reach text v path N = Undeclared

  pub reach_by_fields : List ℕ → Option Data → List ℕ → Fields → Reach
  reach_by_fields text v path no_fields = Undeclared
  reach_by_fields text v path (field k N required default fs) =
      if bytes_eq text (below path (step.field k)) then there_in v else
      if goes_on (below path (step.field k)) text then reach text (option_and_then (λ w. under w k) v) (below path (step.field k)) N else
      reach_by_fields text v path fs
