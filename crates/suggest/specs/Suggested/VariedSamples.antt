-- Samples around an object: what the document for varied paths lets be (this project's own).
use Rattle.std.specs.Prelude.{◌≡◌, ◌≢◌, ◌≤◌, ◌<◌, ℕ, List, [], ◌∷◌, ◌++◌, Bool, true, false, ◌||◌, not, Option, Some, All, map, length, is_some, option_and_then}
use Rattle.jtree.specs.Data.{Data, IsTree}
use Rattle.jtree.specs.Data as tree
use Rattle.jtree.specs.Nodes.{nodes}
use Rattle.jtree.specs.OnlyIntegers.{HasOnlyIntegers}
use Rattle.jtree.specs.Path.{Path, name, under}
use Rattle.schema.specs.Document.Texts.{is_among}
use Rattle.schema.specs.Nodes.Node.{Node, node, scalar, object, IsNode}
use Rattle.schema.specs.Nodes.ByPlace.{field_at, node_at}
use Rattle.stored.specs.Objects.Becomes.{IsStored}
use Rattle.stored.specs.Objects.Fault.{is_null, constraints_of}
use Rattle.stored.specs.Objects.Parts.{at, part_by_path, leads}
use Rattle.stored.specs.Objects.Tests.{is_other_value}
use Rattle.explain.specs.Paths.FieldPath.{field, FieldPath, place_of}
use Rattle.explain.specs.Paths.PathText.{path_text}
use Rattle.plan.specs.declared.pool_limits.PoolLimits.{PoolLimits}
use Rattle.plan.specs.Pools.Document.{pools_of}
use Rattle.plan.specs.Pools.Pools.{Pools}
use Rattle.plan.specs.Samples.Over.{all_names}
use Rattle.plan.specs.Samples.Part.{IsSample}
use Rattle.suggest.specs.Suggested.Chosen.{chosen_names}
use Rattle.suggest.specs.Suggested.Document.{usual_names, general_of, suggestions_by, suggested_document}
use Rattle.suggest.specs.Suggested.Fault.{AreVaried}
use Rattle.suggest.specs.Suggested.Leasts.{IsLeastAt}
use Rattle.suggest.specs.Suggested.LeftOut.{Follows}
use Rattle.suggest.specs.Suggested.Varied.{Suggestions, leads_on}
use Rattle.suggest.specs.Suggested.Wanted.{Wanted}

-- what pools are asked for around an object
abbrev pub around_object : Data → List (List ℕ) → Wanted
around_object v varied = record { objects = v ∷ []; varied = varied; without = [] }

-- the part under these names, one below the other
abbrev pub part_under : Data → List (List ℕ) → Option Data
part_under v [] = Some v
part_under v (k ∷ ks) = option_and_then (λ w. part_under w ks) (under v k)

abbrev pub path_of_names : List (List ℕ) → FieldPath
path_of_names ks = map field ks

-- the path of the names, or a beginning of it, is varied
abbrev pub is_varied_above : List (List ℕ) → List (List ℕ) → List (List ℕ) → Bool
is_varied_above front [] ts = is_among (path_text (path_of_names front)) ts
is_varied_above front (k ∷ ks) ts = is_among (path_text (path_of_names front)) ts || is_varied_above (front ++ k ∷ []) ks ts

-- Outside of the varied paths w is as v: under declared names, where neither the path nor a beginning of it is varied, and no varied path
-- goes on from it, w has what v has, or nothing where v has nothing.
abbrev pub IsSameOutside : Node → List (List ℕ) → Data → Data → Type 0
IsSameOutside root ts v w = (ks : List (List ℕ)) (N : Node) → node_at root (place_of (path_of_names ks)) ≡ Some N
    → is_varied_above [] ks ts ≡ false → leads_on (path_text (path_of_names ks)) ts ≡ false → part_under w ks ≡ part_under v ks

-- ---- that no sample differs outside

-- Each sample over the pools around an object is as the object outside of the varied paths, whether or not the object is stored.
abbrev pub SamplesAreTheObjectOutside : Type 0
SamplesAreTheObjectOutside = (limits : PoolLimits) (raw : Data) (root : Node) (v : Data) (ts : List (List ℕ)) (limit : ℕ) (w : Data)
    → IsNode root → ts ≢ [] → AreVaried root (around_object v ts) → IsSample root (pools_of (suggested_document limits raw root (around_object v ts))) limit w → IsSameOutside root ts v w

-- ---- that the object is a sample

-- Samples can have the value at the node, its parts aside: an object has members of declared names alone; and a scalar that is asked by its
-- schema as it is written is one of the values that its `enum` lists, since a cluster takes others too that count as the same.
abbrev pub can_be_sampled : Node → Data → Bool
can_be_sampled (node nullable description (object fs preserves type bounds cs)) (tree.object ms) = all_names (λ k. is_some (field_at k fs)) ms
can_be_sampled (node nullable description (scalar kind cs)) v =
    is_null v || (not (is_some (constraints_of cs).written) || not (is_other_value (constraints_of cs).choices v))
can_be_sampled N v = true

abbrev pub steps_of_names : List (List ℕ) → Path
steps_of_names ks = map name ks

-- So it is with the parts on the way to varied paths, at these, and below. Nothing is asked of what is kept whole, nor of parts that have no
-- node, as those below open nodes.
pub record CanBeSampled (root : Node) (ts : List (List ℕ)) (v : Data) : Type 0 where
  pub on_the_way : (ks : List (List ℕ)) (N : Node) (w : Data) → leads_on (path_text (path_of_names ks)) ts ≡ true → part_by_path leads (at root v) (steps_of_names ks) ≡ Some (at N w) → can_be_sampled N w ≡ true
  pub at_varied : (ks : List (List ℕ)) (path : Path) (N : Node) (w : Data) → is_among (path_text (path_of_names ks)) ts ≡ true → part_by_path leads (at root v) (steps_of_names ks ++ path) ≡ Some (at N w) → can_be_sampled N w ≡ true

-- Each number at varied paths and below is the least of its value among what is listed for it.
abbrev pub HasLeasts : Node → Pools → List (List ℕ) → Data → Type 0
HasLeasts root P ts v = (ks : List (List ℕ)) (path : Path) (p : FieldPath) (N : Node) (w : Data) → is_among (path_text (path_of_names ks)) ts ≡ true → Follows path p
    → part_by_path leads (at root v) (steps_of_names ks ++ path) ≡ Some (at N w) → IsLeastAt P (path_text (path_of_names ks ++ p)) N w

-- Nothing is asked where all numbers of the object are integers.
abbrev pub IntegersAreLeast : Type 0
IntegersAreLeast = (root : Node) (P : Pools) (ts : List (List ℕ)) (v : Data) → HasOnlyIntegers v → HasLeasts root P ts v

-- Nothing is cut: there are not more lists than there can be, and fewer values in each, and fewer names, than there can be. Where there
-- can be no values at all, lists are left out as if they were empty. Nothing is asked of fixed and present paths, of which the document
-- has all.
pub record IsUncut (limits : PoolLimits) (suggestions : Suggestions) : Type 0 where
  pub some : 0 < limits.entries
  pub lists : length suggestions.lists ≤ limits.paths
  pub values : All (λ e. length e.values < limits.entries) suggestions.lists
  pub names : length (chosen_names limits.names (suggestions.names ++ usual_names)) < limits.names

-- An object that is stored, can be sampled where it is varied and is within the limit is a sample over the pools around it, where nothing
-- is cut and its numbers are the least.
abbrev pub TheObjectIsASample : Type 0
TheObjectIsASample = (limits : PoolLimits) (raw : Data) (root : Node) (v : Data) (ts : List (List ℕ)) (limit : ℕ)
    → IsNode root → ts ≢ [] → AreVaried root (around_object v ts) → IsTree v → IsStored root v → CanBeSampled root ts v → nodes v ≤ limit
    → IsUncut limits (suggestions_by ts (general_of limits root) (around_object v ts) raw root) → HasLeasts root (pools_of (suggested_document limits raw root (around_object v ts))) ts v
    → IsSample root (pools_of (suggested_document limits raw root (around_object v ts))) limit v
