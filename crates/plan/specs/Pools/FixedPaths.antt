-- The paths whose values the pools may fix: all but those of the items of a map list, which need their keys (this project's own).
use Rattle.std.specs.Prelude.{◌≡◌, ℕ, List, [], ◌∷◌, ◌++◌, Bool, true, false, Some}
use Rattle.schema.specs.Nodes.Node.{Node, node, list}
use Rattle.schema.specs.Nodes.ByPlace.{node_at}
use Rattle.schema.specs.declared.node.ListType.TheVariants.{Map}
use Rattle.explain.specs.Paths.FieldPath.{item, FieldPath, place_of}
use Rattle.explain.specs.Fields.Declared.{IsDeclared}
use Rattle.explain.specs.Fields.PathFault.{IsTextOf}

abbrev pub is_map_list : Node → Bool
is_map_list (node nullable description (list N (Map e) keys bounds)) = true
is_map_list _ = false

-- at this path there is a map list
abbrev pub IsMapList : Node → FieldPath → Type 0
IsMapList root p = (N : Node) × ((node_at root (place_of p) ≡ Some N) × (is_map_list N ≡ true))

-- the last step leads to the items of a map list
abbrev pub IsMapItem : Node → FieldPath → Type 0
IsMapItem root p = (q : FieldPath) × ((p ≡ q ++ item ∷ []) × IsMapList root q)

-- the text is that of a declared path whose values may be fixed
abbrev pub IsFixablePath : Node → List ℕ → Type 0
IsFixablePath root text = IsTextOf (λ p. IsDeclared root p × (IsMapItem root p → ⊥)) text
