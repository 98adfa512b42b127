use Rattle.std.proofs.Common.{Some, sym, ap, subst, ◌∙◌, set}
use Rattle.jtree.specs.Data.{AreMembers}
use Rattle.jtree.specs.MemberPlace.{with_member}
use Rattle.jtree.specs.Path.{member_at}
use Rattle.jtree.specs.View.{data_of, members_of}
use Rattle.jtree.specs.Internal.MemberLaws.{written, inserted, there, nowhere, changed_sorted}
use Rattle.jtree.specs.declared.value.Member.{Member}
use Rattle.jtree.proofs.value.Members.insert.Goals as goal

pub returns-in-Ok-clause-put : goal.returns-in-Ok-clause-put
returns-in-Ok-clause-put c =
    let xs = c.self.inside.members.items in
    let m : Member = record { name = c.args.name; tree = c.args.tree } in
    let is = rw (c.as_str.ensures, c.deref.ensures.value) at c.in-Ok.ensures.found in
    ap (λ x. members_of (set xs c.in-Ok.at x)) c.replace-old.ensures.after ∙ (written m xs c.in-Ok.at is ∙ ap (with_member c.args.name (data_of c.args.tree)) c.self.view_is)

pub returns-in-Ok-clause-was : goal.returns-in-Ok-clause-was
returns-in-Ok-clause-was c =
    let xs = c.self.inside.members.items in
    let is = rw (c.as_str.ensures, c.deref.ensures.value) at c.in-Ok.ensures.found in
    let found = there c.args.name xs c.in-Ok.at c.index_mut.result.now is c.index_mut.ensures.value in
    ap (λ x. Some (data_of (Member.tree x))) c.replace-old.ensures.value ∙ (sym found ∙ ap (member_at c.args.name) c.self.view_is)

pub returns-in_ok-insert-in-Err-clause-put : goal.returns-in_ok-insert-in-Err-clause-put
returns-in_ok-insert-in-Err-clause-put c =
    let xs = c.self.inside.members.items in
    let m : Member = record { name = c.args.name; tree = c.args.tree } in
    let is = rw (c.as_str.ensures, c.deref.ensures.value) at c.in-Err.ensures.absent in
    ap members_of c.in_ok-insert-in-Err.ensures.items ∙ (inserted m xs c.in-Err.at is ∙ ap (with_member c.args.name (data_of c.args.tree)) c.self.view_is)

pub returns-in_ok-insert-in-Err-clause-was : goal.returns-in_ok-insert-in-Err-clause-was
returns-in_ok-insert-in-Err-clause-was c =
    let xs = c.self.inside.members.items in
    let is = rw (c.as_str.ensures, c.deref.ensures.value) at c.in-Err.ensures.absent in
    let none = nowhere c.args.name xs c.in-Err.at (subst AreMembers (sym c.self.view_is) c.reveal_invariant.ensures) is in
    sym none ∙ ap (member_at c.args.name) c.self.view_is

pub invariant_of-self : goal.invariant_of-self
invariant_of-self c = subst AreMembers (sym (returns-in-Ok-clause-put c)) (changed_sorted c.args.name (Some (data_of c.args.tree)) c.args.self.now c.reveal_invariant-2.ensures c.reveal_invariant.ensures)

pub invariant_of-self-in-Err : goal.invariant_of-self-in-Err
invariant_of-self-in-Err c = subst AreMembers (sym (returns-in_ok-insert-in-Err-clause-put c)) (changed_sorted c.args.name (Some (data_of c.args.tree)) c.args.self.now c.reveal_invariant-2.ensures c.reveal_invariant.ensures)
