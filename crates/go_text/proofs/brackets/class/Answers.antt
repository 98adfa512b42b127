use Rattle.std.proofs.Common.{◌≡◌, ◌++◌, length, true, subst, rules}
use Rattle.go_text.specs.Texts.{Text}
use Rattle.go_text.specs.Brackets as spec
use Rattle.go_text.specs.Internal.View.{text_of, piece_text}
use Rattle.go_text.specs.Internal.Written.{Writes}
use Rattle.go_text.proofs.MemberLemmas.{class_written}
use Rattle.go_text.proofs.brackets.class.Goals as goal

pub returns-clause-value : goal.returns-clause-value
returns-clause-value c =
    let opening : Text × Text = (piece_text c.class_opening.result.0, c.class_opening.result.1.now) in
    let wrote : text_of c.write.new.out ≡ text_of c.args.out.now ++ opening.0 = search rules in
    let rest : Writes c.write.new.out c.members.new.out c.in_ok-found.found (spec.members (length opening.1) true opening.1) = search rules in
    subst (λ x. Writes c.args.out.now c.members.new.out c.in_ok-found.found (spec.class_of x)) c.class_opening.ensures.value
    (class_written c.args.out.now c.write.new.out c.members.new.out opening c.in_ok-found.found wrote rest)
