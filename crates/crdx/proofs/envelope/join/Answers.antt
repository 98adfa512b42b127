use Rattle.std.proofs.Common.{refl, sym, ap, subst, ◌∙◌}
use Rattle.jtree.specs.Data.{AreMembers}
use Rattle.jtree.specs.Path.{member_at}
use Rattle.jtree.specs.View.{members_of}
use Rattle.crdx.specs.Program.Envelope.{first_of}
use Rattle.crdx.proofs.EnvelopeLemmas.{three_put, tree_back}
use Rattle.crdx.proofs.envelope.join.Goals as goal

pub returns-in_default-reserve-clause-joined : goal.returns-in_default-reserve-clause-joined
returns-in_default-reserve-clause-joined c =
    let parts = c.parts.inside in
    let old = ap members_of c.reserve.ensures.items ∙ c.members.view_is in
    let sorted = c.put-in-Object-2.ensures.sorted (c.put-in-Object.ensures.sorted (c.put.ensures.sorted (subst AreMembers (sym old) c.reveal_invariant.ensures))) in
    rw c.in-Object.is (
      members_of c.put-in-Object-2.new.members.items,
      refl,
      sorted,
      λ k.
          three_put parts.api_version parts.kind parts.metadata _ _ _ _ c.put.ensures.put c.put-in-Object.ensures.put c.put-in-Object-2.ensures.put k
          ∙ (ap (λ ps. first_of (member_at k ps) (member_at k (members_of c.reserve.new.self.items))) c.parts.view_is ∙ ap (λ ms. first_of (member_at k c.args.parts) (member_at k ms)) old),
    )

pub returns-in_default-reserve-clause-again : goal.returns-in_default-reserve-clause-again
returns-in_default-reserve-clause-again c = tree_back _ _ c.args.parts (returns-in_default-reserve-clause-joined c)
