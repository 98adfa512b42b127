use Rattle.std.proofs.Common.{◌≡◌, ◌∙◌, IfOk, sym, subst, arith, eq-eqb}
use Rattle.std.specs.Prelude.{vec_len}
use Rattle.jtree.specs.Data.{object}
use Rattle.jtree.specs.MemberPlace.{with_member}
use Rattle.suggest.specs.Internal.Parts.{with_lists_member}
use Rattle.suggest.proofs.DocumentLemmas.{some_lists}
use Rattle.suggest.proofs.document.with_object.Goals as goal

pub returns : goal.returns
returns c =
    let k = c.args.name.now in
    let ls = c.lists.inside.members.items in
    let is : with_member k (object c.args.lists) c.args.members ≡ with_lists_member k c.args.lists c.args.members =
    (λ j. with_member k (object (sym c.lists.view_is j)) c.args.members) ∙ (sym (some_lists k ls c.args.members (λ e. let n : vec_len c.lists.inside.members ≡ 0 = omega (arith, c.lists.inside.members.ok.0, e) in let t = c.is_empty.ensures ∙ eq-eqb _ _ n in let f = c.if-is_empty.false in cc)) ∙ (λ j. with_lists_member k (c.lists.view_is j) c.args.members)) in
    subst (λ x. IfOk c.with.result (λ ms. ms ≡ x)) is c.with.ensures
