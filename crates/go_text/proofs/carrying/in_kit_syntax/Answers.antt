use Rattle.std.proofs.Common.{◌≡◌, ◌≤◌, ◌∷◌, ◌∙◌, [], length, sym, ap, chars, Some, None, option_map, rules, arith}
use Rattle.std.proofs.lemmas.Str.{chars_from_encodes, chars-nil}
use Rattle.go_text.specs.KitSyntax as spec
use Rattle.go_text.specs.Internal.View.{text_of}
use Rattle.go_text.specs.Internal.Written.{construct_behind}
use Rattle.go_text.proofs.ConstructLemmas.{ahead_more, ahead_refused, after_nothing}
use Rattle.go_text.proofs.carrying.in_kit_syntax.Goals as goal

pub loop-c-init : goal.loop-c-init
loop-c-init c =
    let all : c.as_slice.result.now ≡ chars c.args.text.now = search (rules, chars_from_encodes) in
    let empty : text_of c.new-out.result ≡ [] = ap chars c.new-out.ensures.bytes ∙ chars-nil in
    (length c.as_slice.result.now, omega arith, rw (all, empty) (after_nothing _))

pub returns-in_default-2 : goal.returns-in_default-2
returns-in_default-2 c =
    let here : c.loop-c.place.rest.now ≡ c.in-Some.c ∷ c.in-Some.rest.now = search rules in
    let refused : spec.construct c.loop-c.place.after_repetition c.in-Some.c c.in-Some.rest.now ≡ None = search rules in
    sym (ahead_refused _ (text_of c.loop-c.out) c.loop-c.place.after_repetition c.in-Some.c c.in-Some.rest.now refused (rw here at c.loop-c.invariant))

pub loop-c-preserved : goal.loop-c-preserved
loop-c-preserved c =
    let here : c.loop-c.place.rest.now ≡ c.in-Some.c ∷ c.in-Some.rest.now = search rules in
    let p = c.in-Some-2.after in
    let read : option_map (construct_behind (text_of c.loop-c.out)) (spec.construct c.loop-c.place.after_repetition c.in-Some.c c.in-Some.rest.now)
    ≡ Some (text_of c.construct.new.out, p.after_repetition, p.rest.now) = search rules in
    let less : length p.rest.now ≤ length c.in-Some.rest.now = search rules in
    ahead_more _ (text_of c.loop-c.out) c.loop-c.place.after_repetition c.in-Some.c c.in-Some.rest.now _ _ _ read less (rw here at c.loop-c.invariant)
