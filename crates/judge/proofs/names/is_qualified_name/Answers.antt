use Rattle.std.proofs.Common.{rules, lit<}
use Rattle.judge.specs.Internal.NameForms.{letter_of}
use Rattle.judge.proofs.NameLemmas.{qualified_once, qualified_alone}
use Rattle.judge.proofs.names.is_qualified_name.Goals as goal

pub returns-then-is_subdomain : goal.returns-then-is_subdomain
returns-then-is_subdomain c =
    let cut = c.in-Some.ensures.byte (lit< tt) (λ w o h. h) in
    rw (qualified_once (letter_of c.args.letters) c.args.text.now cut.2) (search rules)

pub returns-else-is_subdomain : goal.returns-else-is_subdomain
returns-else-is_subdomain c =
    let cut = c.in-Some.ensures.byte (lit< tt) (λ w o h. h) in
    rw (qualified_once (letter_of c.args.letters) c.args.text.now cut.2) (search rules)

pub returns-in-None : goal.returns-in-None
returns-in-None c =
    let none = c.in-None.ensures.byte (lit< tt) (λ w o h. h) in
    rw (qualified_alone (letter_of c.args.letters) c.args.text.now none) (search rules)
