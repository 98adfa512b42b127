use Rattle.std.proofs.Common.{◌≡◌, ◌++◌, [], map, drop}
use Rattle.schema.specs.Nodes.View.{node_of}
use Rattle.suggest.specs.View.{trees_of, texts_at}
use Rattle.suggest.specs.Suggested.Without.{taken_out}
use Rattle.suggest.proofs.without.objects_without.Given as goal

abbrev pub invariant-loop-object : goal.invariant-loop-object
invariant-loop-object l =
    let left = taken_out (texts_at l.without) [] (node_of l.root) in
    trees_of l.copies.items ++ map (λ v. left v) (trees_of (drop l.object-index l.objects)) ≡ map (λ v. left v) (trees_of l.objects)
