use Rattle.std.proofs.Common.{◌≡◌, Some, option_map, rules}
use Rattle.go_text.specs.Brackets.{class}
use Rattle.go_text.specs.Internal.View.{text_of}
use Rattle.go_text.specs.Internal.Written.{behind}
use Rattle.go_text.proofs.ConstructLemmas.{class_construct}
use Rattle.go_text.proofs.carrying.construct.Goals as goal

pub returns-in-Some-clause-value : goal.returns-in-Some-clause-value
returns-in-Some-clause-value c =
    let wrote : option_map (behind (text_of c.args.out.now)) (class c.args.text.now) ≡ Some (text_of c.class.new.out, c.in-Some.rest.now) = search rules in
    rw c.if-c-eq91.true (class_construct (text_of c.args.out.now) _ _ (class c.args.text.now) wrote)
