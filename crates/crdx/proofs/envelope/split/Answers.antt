use Rattle.std.proofs.Common.{None, refl, ap, ◌∙◌}
use Rattle.jtree.specs.Data.{object, no_members}
use Rattle.jtree.specs.Path.{member_at}
use Rattle.crdx.specs.Internal.Members.{in_front}
use Rattle.jtree.specs.MemberPlace.{without_member}
use Rattle.crdx.specs.Program.Envelope.{onto}
use Rattle.crdx.proofs.EnvelopeLemmas.{api_version, kind, metadata, body_is, envelope_is}
use Rattle.jtree.specs.Internal.MemberLaws.{changed_elsewhere}
use Rattle.crdx.proofs.envelope.split.Goals as goal

pub returns-in-Object-clause-body : goal.returns-in-Object-clause-body
returns-in-Object-clause-body c =
    rw c.in-Object.is (ap object (c.take-in-Object-2.ensures.rest ∙ (ap (without_member metadata) (c.take-in-Object.ensures.rest ∙ ap (without_member kind) c.take.ensures.rest) ∙ body_is c.in-Object.members c.reveal_invariant.ensures)))

pub returns-in-Object-clause-parts : goal.returns-in-Object-clause-parts
returns-in-Object-clause-parts c =
    let ms = c.in-Object.members in
    let last = onto c.take-in-Object-2.result no_members in
    let later = onto c.take-in-Object.result last in
    let one = ap (member_at kind) c.take.ensures.rest ∙ changed_elsewhere kind api_version None ms refl in
    let two = ap (member_at metadata) (c.take-in-Object.ensures.rest ∙ ap (without_member kind) c.take.ensures.rest)
    ∙ (changed_elsewhere metadata kind None (without_member api_version ms) refl ∙ changed_elsewhere metadata api_version None ms refl) in
    let last_is = c.take-in-Object-2.ensures.taken no_members ∙ ap (λ v. in_front metadata v no_members) two in
    let later_is = c.take-in-Object.ensures.taken last ∙ (ap (λ v. in_front kind v last) one ∙ ap (in_front kind (member_at kind ms)) last_is) in
    rw c.in-Object.is (c.take.ensures.taken later ∙ (ap (in_front api_version (member_at api_version ms)) later_is ∙ envelope_is ms c.reveal_invariant.ensures))
