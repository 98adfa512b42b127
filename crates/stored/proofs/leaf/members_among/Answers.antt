use Rattle.std.proofs.Common.{◌≡◌, ◌∙◌, ap, sym, subst, take, arith}
use Rattle.std.specs.List.{filter}
use Rattle.std.proofs.lemmas.List.{take_all}
use Rattle.jtree.specs.Data.{AreMembers}
use Rattle.jtree.specs.View.{members_of}
use Rattle.schema.specs.Document.Texts.{is_among}
use Rattle.stored.specs.Objects.Leaves.{members_among}
use Rattle.stored.proofs.LeafLemmas.{among_filtered, members_of_some}
use Rattle.stored.proofs.leaf.members_among.Goals as goal

copied : (c : goal.After-loop-member) → members_of c.loop-member.copies.items ≡ members_among c.args.names.now c.args.members.now
copied c =
    let ms = c.deref-member-items.result.now in
    let all : take c.loop-member.member-index ms ≡ ms = take_all c.loop-member.member-index ms (omega arith) in
    ap members_of (c.loop-member.invariant ∙ ap (filter (λ m. is_among m.name c.args.names.now)) all)
    ∙ (among_filtered c.args.names.now ms ∙ ap (members_among c.args.names.now) (ap members_of c.deref-member-items.ensures.value ∙ c.members.view_is))

pub invariant_of-result : goal.invariant_of-result
invariant_of-result c = subst AreMembers (sym (copied c)) (members_of_some c.args.names.now c.args.members.now c.reveal_invariant.ensures)

pub returns : goal.returns
returns c = copied c
