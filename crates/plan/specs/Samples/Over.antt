-- A value over the pools: its scalars, the values of its open nodes and its names are among those that the schema and the pools
-- list, what the pools ask for is there, and what they fix is one of their values (this project's own).
use Rattle.std.specs.Prelude.{◌≡◌, ℕ, List, [], ◌∷◌, ◌++◌, Bool, true, false, Option, Some, None, map, ◌&&◌, ◌||◌, not, is_some, unwrap_or, nat_lt}
use Rattle.jtree.specs.Data.{Data, Items, Members, no_members, member}
use Rattle.jtree.specs.Data as tree
use Rattle.jtree.specs.Path as part
use Rattle.jtree.specs.Path.{Step, Path, part_by, member_at}
use Rattle.schema.specs.Document.Texts.{is_among}
use Rattle.schema.specs.Nodes.Node.{Node, node, scalar, object, list, open_, Fields, no_fields}
use Rattle.schema.specs.Nodes.Node as nodes
use Rattle.schema.specs.Nodes.ByPlace.{field_at, node_below}
use Rattle.schema.specs.declared.node.ScalarKind.{ScalarKind}
use Rattle.schema.specs.declared.node.ScalarKind.TheVariants.{Number}
use Rattle.stored.specs.Objects.Tests.{is_same}
use Rattle.stored.specs.Objects.Fault.{is_null, constraints_of, items_count, members_count}
use Rattle.explain.specs.Paths.FieldPath.{FieldStep, field, item, value, FieldPath, place_step}
use Rattle.plan.specs.Pools.Pools.{Pools, items_list, list_at, is_present}
use Rattle.plan.specs.Samples.Leasts.{leasts}
use Rattle.plan.specs.Samples.Site.{below, fixed_below}

-- ---- what is listed

-- both booleans, the integers and the strings; which of them are of the node's kind is a matter of validity
abbrev pub scalars_of : Pools → List Data
scalars_of P = tree.boolean false ∷ tree.boolean true ∷ map (λ z. tree.integer z) P.integers ++ map (λ t. tree.text t) P.strings

-- for a scalar of numbers the numbers besides
abbrev pub scalars_for : ScalarKind → Pools → List Data
scalars_for Number P = P.numbers ++ scalars_of P
scalars_for _ P = scalars_of P

-- the values of `enum` where it is there, else those of the pools
abbrev pub choices_or : Option Items → List Data → List Data
choices_or None ds = ds
choices_or (Some choices) ds = items_list choices

-- what is listed for every scalar or open node that is like this one
abbrev pub listed_for : Pools → Node → List Data
listed_for P (node nullable description (scalar kind cs)) = choices_or (constraints_of cs).choices (scalars_for kind P)
listed_for P (node nullable description open_) = P.any
listed_for P _ = []

-- what is listed for a scalar or an open node at a path, besides null: a list for the path replaces all else; of numbers of one value
-- the least alone
abbrev pub listed : Pools → List ℕ → Node → List Data
listed P path N = leasts (unwrap_or (list_at path P) (listed_for P N))

-- ---- a value at its node, its parts aside

abbrev pub is_in : Data → List Data → Bool
is_in v [] = false
is_in v (d ∷ ds) = is_same v d || is_in v ds

abbrev pub all_names : (List ℕ → Bool) → Members → Bool
all_names test no_members = true
all_names test (member k d ms) = test k && all_names test ms

-- the pools ask for a field of the object with this path
abbrev pub asks_field : Pools → List ℕ → Fields → Bool
asks_field P path no_fields = false
asks_field P path (nodes.field k N required default fs) = is_present (below path (field k)) P || asks_field P path fs

-- they ask for something directly below a node with this path: a field, an item of a list, or a value of a map
abbrev pub asks_below : Pools → List ℕ → Node → Bool
asks_below P path (node nullable description (object fs preserves type bounds cs)) = asks_field P path fs
asks_below P path (node nullable description (nodes.map N type bounds)) = is_present (below path value) P
asks_below P path (node nullable description (list N type keys bounds)) = is_present (below path item) P
asks_below P path _ = false

-- each field of the object that they ask for is there
abbrev pub has_present : Pools → List ℕ → Fields → Members → Bool
has_present P path no_fields ms = true
has_present P path (nodes.field k N required default fs) ms = (not (is_present (below path (field k)) P) || is_some (member_at k ms)) && has_present P path fs ms

-- so many items, or values of a map, are enough where one is asked for
abbrev pub has_enough : Bool → ℕ → Bool
has_enough asked count = not asked || nat_lt 0 count

-- a null has nothing below it, so it is none of a node below which they ask for something
abbrev pub is_over_here : Pools → List ℕ → Node → Data → Bool
is_over_here P path (node nullable description (object fs preserves type bounds cs)) (tree.object ms) = all_names (λ k. is_some (field_at k fs)) ms && has_present P path fs ms
is_over_here P path (node nullable description (nodes.map N type bounds)) (tree.object ms) =
    all_names (λ k. is_among k P.names) ms && has_enough (is_present (below path value) P) (members_count ms)
is_over_here P path (node nullable description (list N type keys bounds)) (tree.list ds) = has_enough (is_present (below path item) P) (items_count ds)
is_over_here P path (node nullable description (scalar kind cs)) v = is_in v (listed P path (node nullable description (scalar kind cs))) || (is_null v && nullable)
is_over_here P path (node nullable description open_) v = is_in v (listed P path (node nullable description open_)) || (is_null v && nullable)
is_over_here P path N tree.null = not (asks_below P path N)
is_over_here P path N v = true

-- ---- and with its parts

-- the step to a field's node leads to the node of what this step leads to: under a name there is the field of the name, or a value of
-- a map, and at an index an item
abbrev pub StepFollows : Step → FieldStep → Type 0
StepFollows (part.name k) (field l) = k ≡ l
StepFollows (part.name k) value = Unit {0}
StepFollows (part.index i) item = Unit {0}
StepFollows _ _ = ⊥

-- At a node with this path: along a path of the value, the part that it leads to is over the pools. Where the values of a node are
-- fixed, the value is one of them, of numbers of one value the least, and nothing is asked below it.
abbrev pub IsOverAlong : Pools → Option (List Data) → List ℕ → Node → Data → Path → FieldPath → Type 0
IsOverAlong P (Some ds) at N v path p = is_in v (leasts ds) ≡ true
IsOverAlong P None at N v [] [] = is_over_here P at N v ≡ true
IsOverAlong P None at N v (s ∷ path) (t ∷ p) =
    (M : Node) (w : Data) → StepFollows s t → node_below N (place_step t) ≡ Some M → part_by v s ≡ Some w → IsOverAlong P (fixed_below P at N t) (below at t) M w path p
IsOverAlong P None at N v _ _ = Unit {0}

-- each part, at the path of its own node, is over the pools
abbrev pub IsOver : Pools → Option (List Data) → List ℕ → Node → Data → Type 0
IsOver P fixed at N v = (path : Path) (p : FieldPath) → IsOverAlong P fixed at N v path p
