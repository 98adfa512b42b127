use Rattle.std.proofs.Common.{◌≡◌, ◌∙◌, ◌++◌, ◌∷◌, [], ap, map, get_or, arith, string_bytes}
use Rattle.std.proofs.lemmas.List.{map_more, map_push, take_all}
use Rattle.jtree.specs.Data.{text}
use Rattle.suggest.specs.Suggested.Document.{letters}
use Rattle.suggest.proofs.general.letter_strings.Goals as goal

pub loop-length-preserved : goal.loop-length-preserved
loop-length-preserved c =
    let xs = c.args.lengths.now in
    let i = c.loop-length.length-index in
    let made : string_bytes c.in_ok-repeat.field-0 ≡ letters (get_or xs i 0) = c.in_ok-repeat.ensures.bytes in
    rw (c.in_ok-push.ensures.items, map_push, map_more (λ n. text (letters n)) xs i 0 c.loop-length-test.true) (λ j. c.loop-length.invariant j ++ text (made j) ∷ [])

pub returns : goal.returns
returns c = c.loop-length.invariant ∙ ap (map (λ n. text (letters n))) (take_all c.loop-length.length-index c.args.lengths.now (omega arith))
