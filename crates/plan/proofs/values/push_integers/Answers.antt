use Rattle.std.proofs.Common.{take, map, pos, get_or, FitsSigned, rules}
use Rattle.std.specs.Int.{w64}
use Rattle.std.proofs.lemmas.Int.{to_z-of_z}
use Rattle.std.proofs.lemmas.List.{append_assoc, map_more, map_push}
use Rattle.jtree.specs.Data.{integer}
use Rattle.plan.specs.Internal.Values.{trees_of}
use Rattle.plan.proofs.values.push_integers.Goals as goal

pub loop-number-preserved : goal.loop-number-preserved
loop-number-preserved c =
    let xs = c.args.integers.now in
    let i = c.loop-number.number-index in
    let fits : FitsSigned w64 (get_or xs i (pos 0)) = search rules in
    rw (c.in_ok-push.ensures.items, map_push, to_z-of_z w64 (get_or xs i (pos 0)) fits, map_more (λ z. integer z) xs i (pos 0) c.loop-number-test.true, c.loop-number.invariant)
    (append_assoc (trees_of c.args.trees.now.items) (map (λ z. integer z) (take i xs)) _)
