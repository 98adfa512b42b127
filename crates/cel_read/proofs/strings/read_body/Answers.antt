use Rattle.std.proofs.Common.{◌≡◌, ◌<◌, ◌++◌, ◌∷◌, [], length, Some, None, sym, subst, rules}
use Rattle.cel_read.specs.Lexemes.{after_mark}
use Rattle.cel_read.specs.Internal.Reading.{read_part, whole_body}
use Rattle.cel_read.specs.Internal.Found.{quoting_of}
use Rattle.cel_read.proofs.BodyLemmas.{IsAhead, ahead_first, ahead_closed, ahead_more, ahead_none}
use Rattle.cel_read.proofs.strings.read_body.Goals as goal

pub parts-init : goal.parts-init
parts-init c =
    let q = quoting_of c.args.quoting in
    let t = c.args.text.now in
    subst (λ vs. IsAhead q (whole_body q t) vs t) (sym c.new-values.ensures.items) (ahead_first q t)

pub returns-in-Some : goal.returns-in-Some
returns-in-Some c =
    let q = quoting_of c.args.quoting in
    let closed : after_mark q c.parts.rest.now ≡ Some c.in-Some.rest.now = search rules in
    sym (ahead_closed q (whole_body q c.args.text.now) c.parts.values.items c.parts.rest.now c.in-Some.rest.now closed c.parts.invariant)

pub returns-in_default-2 : goal.returns-in_default-2
returns-in_default-2 c =
    let q = quoting_of c.args.quoting in
    let unclosed : after_mark q c.parts.rest.now ≡ None = search rules in
    let none : read_part q c.parts.rest.now ≡ None = search rules in
    sym (ahead_none q (whole_body q c.args.text.now) c.parts.values.items c.parts.rest.now unclosed none c.parts.invariant)

pub parts-preserved : goal.parts-preserved
parts-preserved c =
    let q = quoting_of c.args.quoting in
    let whole = whole_body q c.args.text.now in
    let after = c.in-Some-2.after.now in
    let v = c.in-Some-2.value in
    let unclosed : after_mark q c.parts.rest.now ≡ None = search rules in
    let read : read_part q c.parts.rest.now ≡ Some (v, after) = search rules in
    let less : length after < length c.parts.rest.now = search rules in
    let pushed : c.push.new.self.items ≡ c.parts.values.items ++ v ∷ [] = search rules in
    subst (λ vs. IsAhead q whole vs after) (sym pushed) (ahead_more q whole c.parts.values.items c.parts.rest.now after v unclosed read less c.parts.invariant)
