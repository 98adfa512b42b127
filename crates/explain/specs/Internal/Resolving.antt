-- For private contracts: the nodes to which paths lead, by their texts.
use Rattle.std.specs.Prelude.{◌≡◌, ◌≢◌, ℕ, List, ◌++◌, Option, None, option_map, option_and_then}
use Rattle.schema.specs.Nodes.Node.{Node, Fields}
use Rattle.schema.specs.Nodes.ByPlace.{field_at, node_at}
use Rattle.explain.specs.Paths.FieldPath.{FieldStep, field, FieldPath, place_of}
use Rattle.explain.specs.Paths.PathText.{step_text, path_text}

-- to this node the path of the text leads
abbrev pub IsNodeAt : Node → List ℕ → Option Node → Type 0
IsNodeAt N text found = (p : FieldPath) → path_text p ≡ text → found ≡ node_at N (place_of p)

-- and so by the first step of the path
abbrev pub IsNodeBelow : (FieldStep → Option Node) → List ℕ → Option Node → Type 0
IsNodeBelow lead text found = (s : FieldStep) (p : FieldPath) → step_text s ++ path_text p ≡ text → found ≡ option_and_then (λ M. node_at M (place_of p)) (lead s)

abbrev pub field_below : Fields → FieldStep → Option Node
field_below fs (field k) = option_map (λ f. f.node) (field_at k fs)
field_below fs _ = None

-- and so from the node below one step, where the text begins with that step
abbrev pub IsNodeAfter : List ℕ → Node → List ℕ → Option Node → Type 0
IsNodeAfter step M text found = ((rest : List ℕ) → text ≡ step ++ rest → IsNodeAt M rest found) × (((rest : List ℕ) → text ≢ step ++ rest) → found ≡ None)
