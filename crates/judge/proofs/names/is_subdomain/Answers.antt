use Rattle.std.proofs.Common.{rules, tests, refl}
use Rattle.std.proofs.lemmas.Iterator.Search.{all_from_yields_List}
use Rattle.std.proofs.lemmas.Iterator.Splits.{YieldsList-from_slice_split}
use Rattle.judge.specs.Envelope.{is_word, is_hyphen, is_dot}
use Rattle.judge.specs.Internal.NameForms.{letter_of}
use Rattle.judge.proofs.names.is_subdomain.Goals as goal

pub returns-then-text-le253 : goal.returns-then-text-le253
returns-then-text-le253 c =
    let words = all_from_yields_List (is_word (letter_of c.args.letters) is_hyphen) _ _ c.all.result c.all.ensures.ran
    (YieldsList-from_slice_split _ is_dot c.args.text.now (cc) (cc) refl (λ x b q k. search (rules, tests))) (λ x b q k. search (rules, tests)) in
    rw words (search rules)
