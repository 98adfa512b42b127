use Rattle.std.proofs.Common.{◌≡◌, Some, ap, sym, ◌∙◌, subst, rules}
use Rattle.std.proofs.lemmas.Fn.{always_returns_same}
use Rattle.jtree.specs.Data.{AreMembers}
use Rattle.jtree.specs.Path.{member_at}
use Rattle.jtree.specs.View.{data_of, members_of}
use Rattle.plan.proofs.LookupLemmas.{by_name, found_at, names_rise, parted}
use Rattle.plan.proofs.pools.value_under.Goals as goal

pub returns-in-Ok : goal.returns-in-Ok
returns-in-Ok c =
    let k = c.args.name.now in
    let ms = c.members.inside.members.items in
    let m = c.index.result.now in
    let whole : members_of ms ≡ c.args.members.now = c.members.view_is in
    let are : AreMembers (members_of ms) = subst AreMembers (sym whole) c.reveal_invariant.ensures in
    let tie = c.in-Ok.ensures.position (by_name k) (always_returns_same _ _ _ (λ a r f h. search rules)) in
    let tied = rw c.deref.ensures.value at tie m in
    ap (λ n. Some (data_of n.tree)) c.index.ensures ∙ sym (found_at k ms c.in-Ok.place m are (rw c.deref.ensures.value at c.in-Ok.ensures.bound) tied) ∙ ap (member_at k) whole

pub returns-in-Err : goal.returns-in-Err
returns-in-Err c =
    let k = c.args.name.now in
    let ms = c.members.inside.members.items in
    let whole : members_of ms ≡ c.args.members.now = c.members.view_is in
    let are : AreMembers (members_of ms) = subst AreMembers (sym whole) c.reveal_invariant.ensures in
    let search_result = c.in-Err.ensures.position (by_name k) (always_returns_same _ _ _ (λ a r f h. search rules)) in
    let none = rw c.deref.ensures.value at search_result in
    sym (parted k ms c.in-Err.field-0 (none (names_rise k ms are))) ∙ ap (member_at k) whole
