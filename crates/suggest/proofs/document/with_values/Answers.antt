use Rattle.std.proofs.Common.{◌≡◌, ◌∙◌, IfOk, length, sym, subst, arith, eq-eqb}
use Rattle.std.proofs.lemmas.List.{length-map}
use Rattle.jtree.specs.MemberPlace.{with_member}
use Rattle.jtree.specs.View.{data_of}
use Rattle.suggest.specs.View.{trees_of}
use Rattle.suggest.proofs.DocumentLemmas.{some_values}
use Rattle.suggest.proofs.document.with_values.Goals as goal

pub returns : goal.returns
returns c =
    let k = c.args.name.now in
    let vs = trees_of c.args.values.now in
    let is = (λ j. with_member k (c.in_ok-list.ensures j) c.args.members) ∙ sym (some_values k vs c.args.members (λ e.
    let long = length-map c.args.values.now (λ t. data_of t) in
    let n : length c.args.values.now ≡ 0 = omega (arith, long, e) in
    let t = c.is_empty.ensures ∙ eq-eqb _ _ n in
    let f = c.if-is_empty.false in
    cc)) in
    subst (λ x. IfOk c.with.result (λ ms. ms ≡ x)) is c.with.ensures
