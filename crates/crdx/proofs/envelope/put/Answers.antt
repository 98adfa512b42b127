use Rattle.std.proofs.Common.{◌∙◌, Some, sym, ap, subst}
use Rattle.jtree.specs.Data.{AreMembers}
use Rattle.jtree.specs.Path.{member_at}
use Rattle.jtree.specs.View.{data_of, members_of}
use Rattle.crdx.proofs.EnvelopeLemmas.{put_at}
use Rattle.jtree.specs.Internal.MemberLaws.{written, inserted, changed_sorted}
use Rattle.crdx.proofs.envelope.put.Goals as goal

pub returns-in-Ok-clause-put : goal.returns-in-Ok-clause-put
returns-in-Ok-clause-put c = λ k.
    let m = c.in-Some.member in
    let is = written m c.args.members.now.items c.in-Ok.at (rw (c.as_str.ensures, c.deref.ensures.value) at c.in-Ok.ensures.found) in
    rw c.in-Some.is (ap (member_at k) is ∙ put_at m (members_of c.args.members.now.items) k)

pub returns-in-Ok-clause-sorted : goal.returns-in-Ok-clause-sorted
returns-in-Ok-clause-sorted c = λ sorted.
    let m = c.in-Some.member in
    let is = written m c.args.members.now.items c.in-Ok.at (rw (c.as_str.ensures, c.deref.ensures.value) at c.in-Ok.ensures.found) in
    subst AreMembers (sym is) (changed_sorted m.name (Some (data_of m.tree)) (members_of c.args.members.now.items) c.reveal_invariant.ensures sorted)

pub returns-in-Err-clause-put : goal.returns-in-Err-clause-put
returns-in-Err-clause-put c = λ k.
    let m = c.in-Some.member in
    let items = rw (c.insert.ensures.succeeds c.requires) at c.insert.ensures.items in
    let is = inserted m c.args.members.now.items c.in-Err.at (rw (c.as_str.ensures, c.deref.ensures.value) at c.in-Err.ensures.absent) in
    rw c.in-Some.is (ap (member_at k) (ap members_of items ∙ is) ∙ put_at m (members_of c.args.members.now.items) k)

pub returns-in-Err-clause-sorted : goal.returns-in-Err-clause-sorted
returns-in-Err-clause-sorted c = λ sorted.
    let m = c.in-Some.member in
    let items = rw (c.insert.ensures.succeeds c.requires) at c.insert.ensures.items in
    let is = inserted m c.args.members.now.items c.in-Err.at (rw (c.as_str.ensures, c.deref.ensures.value) at c.in-Err.ensures.absent) in
    subst AreMembers (sym (ap members_of items ∙ is)) (changed_sorted m.name (Some (data_of m.tree)) (members_of c.args.members.now.items) c.reveal_invariant.ensures sorted)
