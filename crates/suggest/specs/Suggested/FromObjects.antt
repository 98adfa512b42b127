-- What stands in objects is a candidate where it stands (this project's own).
use Rattle.std.specs.Prelude.{◌≡◌, ◌≢◌, ◌<◌, ℕ, List, [], false, Some, Contains, length}
use Rattle.jtree.specs.Data.{Data, IsTree}
use Rattle.jtree.specs.Path.{Path, part_at}
use Rattle.schema.specs.Nodes.Node.{Node, IsNode}
use Rattle.schema.specs.Nodes.ByPlace.{node_at}
use Rattle.stored.specs.Objects.Becomes.{IsStored}
use Rattle.stored.specs.Objects.Fault.{is_null}
use Rattle.explain.specs.Paths.FieldPath.{FieldPath, place_of}
use Rattle.explain.specs.Paths.PathText.{path_text}
use Rattle.plan.specs.declared.pool_limits.PoolLimits.{PoolLimits}
use Rattle.plan.specs.declared.sort.Sort.TheVariants.{Leaf}
use Rattle.plan.specs.Pools.Document.{pools_of}
use Rattle.plan.specs.Pools.Pools.{Pools, list_at}
use Rattle.plan.specs.Samples.Candidates.{sort_at}
use Rattle.plan.specs.Samples.Part.{IsPart}
use Rattle.plan.specs.Samples.Site.{plain}
use Rattle.suggest.specs.Suggested.Document.{suggested_document}
use Rattle.suggest.specs.Suggested.Leasts.{IsLeastAt}
use Rattle.suggest.specs.Suggested.LeftOut.{Follows}
use Rattle.suggest.specs.Suggested.Wanted.{Wanted}
use Rattle.suggest.specs.Suggested.Without.{taken_out}

-- the pools that are suggested for objects, without these paths, where no path is varied
abbrev pub from_objects : List Data → List (List ℕ) → Wanted
from_objects objects without = record { objects = objects; varied = []; without = without }

abbrev pub pools_from : PoolLimits → Data → Node → List Data → List (List ℕ) → Pools
pools_from limits raw root objects without = pools_of (suggested_document limits raw root (from_objects objects without))

-- the value stands in the object at a scalar or an open node, and is stored there
pub record StandsAtLeaf (root : Node) (object : Data) (p : FieldPath) (N : Node) (v : Data) : Type 0 where
  pub below_root : p ≢ []
  pub node : node_at root (place_of p) ≡ Some N
  pub leaf : sort_at N ≡ Leaf
  pub path : Path
  pub follows : Follows path p
  pub part : part_at object path ≡ Some v
  pub tree : IsTree v
  pub stored : IsStored N v

-- the list of the path is not cut: the document has it, and it has fewer values than there can be
abbrev pub IsUncutAt : PoolLimits → Pools → List ℕ → Type 0
IsUncutAt limits P text = (vs : List Data) × (list_at text P ≡ Some vs) × (length vs < limits.entries)

-- Such a value of one of the objects, without the paths that never occur, is a part of the site, and so a candidate there within any limit
-- that its nodes are within, where the list of its path is not cut; null needs no list. Of numbers of one value that the list has only the
-- least is one.
abbrev pub WhatStandsThereIsACandidate : Type 0
WhatStandsThereIsACandidate = (limits : PoolLimits) (raw : Data) (root : Node) (objects : List Data) (without : List (List ℕ)) (object : Data) (p : FieldPath) (N : Node) (v : Data)
    → IsNode root → Contains objects object → StandsAtLeaf root (taken_out without [] root object) p N v
    → (is_null v ≡ false → IsUncutAt limits (pools_from limits raw root objects without) (path_text p)) → IsLeastAt (pools_from limits raw root objects without) (path_text p) N v
    → IsPart (pools_from limits raw root objects without) (plain (pools_from limits raw root objects without) (path_text p) N) v
