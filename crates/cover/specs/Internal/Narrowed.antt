-- The pools over which exactly those samples are left in which a path is there, with a value where one is wanted: they ask for the path and
-- each beginning of it, fix on the way only values in which the rest of it is there, and fix the value at its end.
use Rattle.std.specs.Prelude.{◌≡◌, ℕ, List, [], ◌∷◌, ◌++◌, Bool, Option, Some, None, if◌then◌else◌}
use Rattle.std.specs.Str.{bytes_eq}
use Rattle.jtree.specs.Data.{Data, list, Items, no_items, item}
use Rattle.schema.specs.Nodes.Node.{Node}
use Rattle.schema.specs.Nodes.ByPlace.{node_at}
use Rattle.explain.specs.Paths.FieldPath.{FieldPath, place_of}
use Rattle.explain.specs.Paths.PathText.{path_text}
use Rattle.plan.specs.Pools.FixedPaths.{IsMapItem}
use Rattle.plan.specs.Pools.Pools.{Pools, fixed_at}
use Rattle.plan.specs.Pools.Along as along
use Rattle.plan.specs.Samples.Candidates.{sort_at}
use Rattle.plan.specs.Samples.Part.{IsPart}
use Rattle.plan.specs.Samples.Question.{Question}
use Rattle.plan.specs.Samples.Site.{below, plain}
use Rattle.plan.specs.declared.sort.Sort.TheVariants.{Leaf}
use Rattle.cover.specs.There.{is_there}

-- what is left of a path after the beginning with this text
abbrev pub rest_at : List ℕ → FieldPath → List ℕ → Option FieldPath
rest_at front [] text = None
rest_at front (s ∷ p) text = if bytes_eq text (below front s) then Some p else rest_at (below front s) p text

-- those that pass the test
abbrev pub kept_of : (Data → Bool) → List Data → List Data
kept_of test [] = []
kept_of test (d ∷ ds) = if test d then d ∷ kept_of test ds else kept_of test ds

-- the value alone at the end of the path, where one is wanted
abbrev pub end_alone : FieldPath → Option Data → Option (List Data)
end_alone [] (Some w) = Some (w ∷ [])
end_alone [] None = None
end_alone (s ∷ r) o = None

-- what is fixed where this is left of the path: of the values that are fixed there those in which it is there
abbrev pub kept_fixed : Option Data → Option FieldPath → Option (List Data) → Option (List Data)
kept_fixed o None fixed = fixed
kept_fixed o (Some r) (Some ds) = Some (kept_of (is_there o r) ds)
kept_fixed o (Some r) None = end_alone r o

abbrev pub as_items : List Data → Items
as_items [] = no_items
as_items (d ∷ ds) = item d (as_items ds)

-- a list for the path of a text, where there is one
abbrev pub change_at : List ℕ → Option (List Data) → List (List ℕ × Option Data)
change_at text None = []
change_at text (Some ds) = (text, Some (list (as_items ds))) ∷ []

-- the lists along a path
abbrev pub changes : Option Data → Pools → List ℕ → FieldPath → List (List ℕ × Option Data)
changes o P front [] = []
changes o P front (s ∷ p) = change_at (below front s) (kept_fixed o (Some p) (fixed_at (below front s) P)) ++ changes o P (below front s) p

abbrev pub narrowed : Pools → Option Data → FieldPath → Pools
narrowed P o p = along.narrowed P (changes o P [] p) p

abbrev pub narrower : Question → Option Data → FieldPath → Question
narrower q o p = record { root = q.root; pools = narrowed q.pools o p; limit = q.limit }

-- a value is wanted only at a scalar or an open node, where it is one of those that the pools leave there, and which is no item of a map
-- list
abbrev pub MayBeWanted : Node → Pools → Option Data → FieldPath → Type 0
MayBeWanted root P None p = Unit {0}
MayBeWanted root P (Some w) p =
    (IsMapItem root p → ⊥) × ((N : Node) → node_at root (place_of p) ≡ Some N → IsPart P (plain P (path_text p) N) w) × ((N : Node) → node_at root (place_of p) ≡ Some N → sort_at N ≡ Leaf)
