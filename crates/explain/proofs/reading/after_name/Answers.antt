use Rattle.std.proofs.Common.{◌++◌, ◌∷◌, ◌∙◌, ap, flat_map}
use Rattle.std.proofs.lemmas.List.{take_all}
use Rattle.explain.specs.Paths.PathText.{escaped}
use Rattle.explain.proofs.ReadingLemmas.{other_letter, longer_name}
use Rattle.explain.proofs.reading.after_name.Goals as goal

pub returns-in_err-rest-2 : goal.returns-in_err-rest-2
returns-in_err-rest-2 c =
    let l = c.loop-letter in
    rw c.from_residual-in_err-rest-2.ensures (other_letter c.args.text.now c.args.name.now l.rest.now l.letter-index c.loop-letter-test.true l.invariant (λ t. c.in_err-rest-2.ensures t))

pub returns-else-is_end : goal.returns-else-is_end
returns-else-is_end c =
    let l = c.loop-letter in
    longer_name c.args.text.now c.args.name.now l.rest.now (l.invariant ∙ ap (λ k. (47 ∷ flat_map escaped k) ++ l.rest.now) (take_all l.letter-index c.args.name.now c.loop-letter-test.false))
    (λ e. let is = c.is_end.ensures.1 e in let no = c.if-is_end.false in cc)
