use Rattle.std.proofs.Common.{◌∙◌, ◌++◌, ◌∷◌, [], ap, map, pos, get_or, FitsSigned, arith, rules}
use Rattle.std.specs.Int.{w64}
use Rattle.std.proofs.lemmas.Int.{to_z-of_z}
use Rattle.std.proofs.lemmas.List.{map_more, map_push, take_all}
use Rattle.jtree.specs.Data.{integer}
use Rattle.suggest.proofs.general.integer_trees.Goals as goal

pub loop-integer-preserved : goal.loop-integer-preserved
loop-integer-preserved c =
    let xs = c.args.integers.now in
    let i = c.loop-integer.integer-index in
    let z = get_or xs i (pos 0) in
    let fits : FitsSigned w64 z = search rules in
    rw (c.in_ok-push.ensures.items, map_push, to_z-of_z w64 z fits, map_more (λ z. integer z) xs i (pos 0) c.loop-integer-test.true) (ap (λ ds. ds ++ integer z ∷ []) c.loop-integer.invariant)

pub returns : goal.returns
returns c = c.loop-integer.invariant ∙ ap (map (λ z. integer z)) (take_all c.loop-integer.integer-index c.args.integers.now (omega arith))
