use Rattle.std.proofs.Common.{◌≡◌, None, sym, ap, subst, ◌∙◌}
use Rattle.jtree.specs.Data.{AreMembers}
use Rattle.jtree.specs.MemberPlace.{without_member}
use Rattle.jtree.specs.Path.{member_at}
use Rattle.jtree.specs.View.{members_of}
use Rattle.jtree.specs.Internal.MemberLaws.{removed, absent, there, nowhere, changed_sorted}
use Rattle.jtree.proofs.value.Members.remove.Goals as goal

pub returns-in-Ok-clause-rest : goal.returns-in-Ok-clause-rest
returns-in-Ok-clause-rest c =
    let place = rw c.deref.ensures.value at c.in-Ok.ensures.found in
    ap members_of c.remove-old.ensures.items ∙ (removed c.args.name.now c.self.inside.members.items c.in-Ok.at place ∙ ap (without_member c.args.name.now) c.self.view_is)

pub returns-in-Ok-clause-was : goal.returns-in-Ok-clause-was
returns-in-Ok-clause-was c =
    let place = rw c.deref.ensures.value at c.in-Ok.ensures.found in
    let found = there c.args.name.now c.self.inside.members.items c.in-Ok.at c.remove-old.result place c.remove-old.ensures.value in
    sym found ∙ ap (member_at c.args.name.now) c.self.view_is

pub invariant_of-self : goal.invariant_of-self
invariant_of-self c = subst AreMembers (sym (returns-in-Ok-clause-rest c)) (changed_sorted c.args.name.now None c.args.self.now tt c.reveal_invariant.ensures)

pub returns-in-Err-clause-rest : goal.returns-in-Err-clause-rest
returns-in-Err-clause-rest c =
    let place = rw c.deref.ensures.value at c.in-Err.ensures.absent in
    subst (λ ms. ms ≡ without_member c.args.name.now ms) c.self.view_is (sym (absent c.args.name.now c.self.inside.members.items c.in-Err.field-0 place))

pub returns-in-Err-clause-was : goal.returns-in-Err-clause-was
returns-in-Err-clause-was c =
    let place = rw c.deref.ensures.value at c.in-Err.ensures.absent in
    let none = nowhere c.args.name.now c.self.inside.members.items c.in-Err.field-0 (subst AreMembers (sym c.self.view_is) c.reveal_invariant.ensures) place in
    sym none ∙ ap (member_at c.args.name.now) c.self.view_is
