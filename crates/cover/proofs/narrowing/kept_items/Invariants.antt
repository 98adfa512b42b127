use Rattle.std.proofs.Common.{◌≡◌, take, map, option_map}
use Rattle.jtree.specs.Data.{AreTrees}
use Rattle.jtree.specs.View.{data_of, items_of}
use Rattle.cover.specs.There.{is_there}
use Rattle.cover.specs.Internal.Narrowed.{kept_of}
use Rattle.cover.specs.Internal.Ways.{path_of}
use Rattle.cover.proofs.narrowing.kept_items.Given as goal

abbrev pub invariant-loop-tree : goal.invariant-loop-tree
invariant-loop-tree l = record {
  kept : map (λ t. data_of t) l.kept.items ≡ kept_of (is_there (option_map (λ w. data_of w.now) l.value) (path_of l.steps)) (map (λ t. data_of t) (take l.tree-index l.trees));
  trees : AreTrees (items_of l.kept.items);
}
