use Rattle.std.proofs.Common.{rules, tests, ◌||◌}
use Rattle.std.proofs.lemmas.Iterator.{YieldsList-from_slice}
use Rattle.std.proofs.lemmas.Iterator.Search.{all_from_yields_List}
use Rattle.judge.specs.Internal.NameForms.{letter_of, mark_of}
use Rattle.judge.proofs.names.is_word.Goals as goal

pub returns-then-ends : goal.returns-then-ends
returns-then-ends c =
    let inner = all_from_yields_List (λ b. letter_of c.args.letters b || mark_of c.args.marks b) _ _ c.all.result c.all.ensures.ran
    (YieldsList-from_slice c.args.text.now c.iter.ensures.rest) (λ x b q k. search (rules, tests)) in
    rw inner (search rules)
