-- Pruning level by level is pruning by paths.
use Rattle.std.proofs.Common.{◌≡◌, ℕ, zero, suc, List, [], ◌∷◌, true, false, Option, Some, None, refl, ap, ◌∙◌, inl, inr}
use Rattle.std.specs.Prelude.{option_map, option_and_then, is_some, if◌then◌else◌}
use Rattle.std.specs.Str.{bytes_eq}
use Rattle.jtree.specs.Data.{Data, Items, no_items, item, Members, no_members, member}
use Rattle.jtree.specs.Data as tree
use Rattle.jtree.specs.Path.{Step, name, index, Path, member_at, item_at, part_at, part_by}
use Rattle.jtree.specs.Internal.Lookups.{bool_cases, option_cases, same_name}
use Rattle.schema.specs.Nodes.Node.{Node, node, object, map, list, Fields}
use Rattle.schema.specs.Nodes.ByPlace.{field_at}
use Rattle.stored.specs.Objects.Parts.{at, part_of, value_of, part_by_path}
use Rattle.stored.specs.Objects.Becomes.{label, leads_uncut, IsPruned}
use Rattle.stored.specs.Internal.Pruning.{field_node, declared, pruned, pruned_members, pruned_items, by_node}
use Rattle.stored.proofs.BecomingLemmas.{free_stays}

members_pruned_at : (nodes : List ℕ → Option Node) (ms : Members) (k : List ℕ) → member_at k (pruned_members nodes ms) ≡ option_map (λ d. by_node (nodes k) (λ N. pruned N d) d) (member_at k ms)
members_pruned_at nodes no_members k = refl
members_pruned_at nodes (member l d ms) k = elim (bool_cases (bytes_eq k l)) [
  | inl t ↦ rw (t, same_name k l t) refl
  | inr f ↦ rw f (members_pruned_at nodes ms k)
]

items_pruned_at : (N : Node) (ds : Items) (i : ℕ) → item_at i (pruned_items N ds) ≡ option_map (pruned N) (item_at i ds)
items_pruned_at N no_items i = refl
items_pruned_at N (item d ds) zero = refl
items_pruned_at N (item d ds) (suc i) = items_pruned_at N ds i

declared_at : (fs : Fields) (ms : Members) (k : List ℕ) → member_at k (declared fs ms) ≡ (if is_some (field_at k fs) then member_at k ms else None)
declared_at fs no_members k = elim (bool_cases (is_some (field_at k fs))) [ inl t ↦ rw t refl | inr f ↦ rw f refl ]
declared_at fs (member l d ms) k = elim (bool_cases (bytes_eq k l)) [
  | inl t ↦ elim (bool_cases (is_some (field_at l fs))) [
    | inl some ↦ rw (some, t, same_name k l t, some) refl
    | inr none ↦ rw none (declared_at fs ms k ∙ rw (same_name k l t, none) refl)
  ]
  | inr f ↦ elim (bool_cases (is_some (field_at l fs))) [
    | inl some ↦ rw (some, f) (declared_at fs ms k)
    | inr none ↦ rw (none, f) (declared_at fs ms k)
  ]
]

label_pruned : (N : Node) (v : Data) → label (pruned N v) ≡ label v
label_pruned (node n t (object fs preserves type bounds cs)) (tree.object ms) = refl
label_pruned (node n t (map N type bounds)) (tree.object ms) = refl
label_pruned (node n t (list N type keys bounds)) (tree.list ds) = refl
label_pruned _ v = refl

abbrev IsPrunedAt : Node → Data → Path → Type 0
IsPrunedAt N v path = option_map label (part_at (pruned N v) path) ≡ option_map (λ q. label (value_of q)) (part_by_path leads_uncut (at N v) path)

-- below, by the node of the part
under : (o : Option Node) (v : Option Data) (path : Path) → ((N : Node) (d : Data) → IsPrunedAt N d path)
    → option_map label (option_and_then (λ d. part_at d path) (option_map (λ d. by_node o (λ N. pruned N d) d) v)) ≡ option_map (λ q. label (value_of q)) (option_and_then (λ r. part_by_path leads_uncut r path) (option_map (part_of o) v))
under o None path below = refl
under None (Some d) path below = free_stays leads_uncut (Some d) path
under (Some N) (Some d) path below = below N d

step : (N : Node) (v : Data) (s : Step) (path : Path) → ((M : Node) (d : Data) → IsPrunedAt M d path) → IsPrunedAt N v (s ∷ path)
step (node n t (object fs true type bounds cs)) (tree.object ms) (name k) path below = rw (members_pruned_at (field_node fs) ms k) (under (field_node fs k) (member_at k ms) path below)
step (node n t (object fs false type bounds cs)) (tree.object ms) (name k) path below = rw declared_at (elim (option_cases (field_at k fs)) [
  | inl none ↦ rw none refl
  | inr f ↦ rw (f.1, members_pruned_at (field_node fs) ms k, f.1) (under (Some f.0.node) (member_at k ms) path below)
])
step (node n t (map N type bounds)) (tree.object ms) (name k) path below = rw (members_pruned_at (λ l. Some N) ms k) (under (Some N) (member_at k ms) path below)
step (node n t (list N type keys bounds)) (tree.list ds) (index i) path below = rw (items_pruned_at N ds i) (under (Some N) (item_at i ds) path below)
step (node n t (object fs preserves type bounds cs)) (tree.object ms) (index i) path below = refl
step (node n t (map N type bounds)) (tree.object ms) (index i) path below = refl
step (node n t (list N type keys bounds)) (tree.list ds) (name k) path below = refl
step _ v s path below = free_stays leads_uncut (part_by v s) path

pub pruned_paths : (N : Node) (v : Data) → IsPruned N v (pruned N v)
pruned_paths N v [] = ap Some (label_pruned N v)
pruned_paths N v (s ∷ path) = step N v s path (λ M d. pruned_paths M d path)
