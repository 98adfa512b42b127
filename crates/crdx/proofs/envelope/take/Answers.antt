use Rattle.std.proofs.Common.{◌≡◌, ◌∙◌, None, sym, ap, subst}
use Rattle.jtree.specs.Data.{AreMembers}
use Rattle.jtree.specs.Path.{member_at}
use Rattle.jtree.specs.View.{members_of}
use Rattle.crdx.specs.Internal.Members.{in_front}
use Rattle.jtree.specs.MemberPlace.{without_member}
use Rattle.crdx.proofs.EnvelopeLemmas.{taken}
use Rattle.jtree.specs.Internal.MemberLaws.{removed, absent, changed_here, changed_sorted}
use Rattle.crdx.proofs.envelope.take.Goals as goal

pub returns-in-Ok-clause-rest : goal.returns-in-Ok-clause-rest
returns-in-Ok-clause-rest c =
    let place = rw c.deref.ensures.value at c.in-Ok.ensures.found in
    ap members_of c.remove.ensures.items ∙ (removed c.args.name.now c.members.inside.members.items c.in-Ok.at place ∙ ap (without_member c.args.name.now) c.members.view_is)

pub returns-in-Ok-clause-taken : goal.returns-in-Ok-clause-taken
returns-in-Ok-clause-taken c = λ ms.
    let place = rw c.deref.ensures.value at c.in-Ok.ensures.found in
    taken c.args.name.now c.members.inside.members.items c.in-Ok.at c.remove.result ms place c.remove.ensures.value
    ∙ ap (λ all. in_front c.args.name.now (member_at c.args.name.now all) ms) c.members.view_is

pub invariant_of-members : goal.invariant_of-members
invariant_of-members c = subst AreMembers (sym (returns-in-Ok-clause-rest c)) (changed_sorted c.args.name.now None c.args.members.now tt c.reveal_invariant.ensures)

pub returns-in-Err-clause-rest : goal.returns-in-Err-clause-rest
returns-in-Err-clause-rest c =
    let place = rw c.deref.ensures.value at c.in-Err.ensures.absent in
    subst (λ ms. ms ≡ without_member c.args.name.now ms) c.members.view_is (sym (absent c.args.name.now c.members.inside.members.items c.in-Err.field-0 place))

pub returns-in-Err-clause-taken : goal.returns-in-Err-clause-taken
returns-in-Err-clause-taken c = λ ms.
    let none = changed_here c.args.name.now None c.args.members.now c.reveal_invariant.ensures in
    ap (λ o. in_front c.args.name.now o ms) (sym none ∙ ap (member_at c.args.name.now) (sym (returns-in-Err-clause-rest c)))
