use Rattle.std.proofs.Common.{sym, ap, ◌∙◌, subst}
use Rattle.jtree.specs.Data.{AreMembers, object}
use Rattle.jtree.specs.View.{members_of}
use Rattle.cluster.specs.Metadata.{meta_values, meta_members}
use Rattle.cluster.proofs.MetaTrees.{list_of_values, sorted_values, list_of_fields, sorted_fields}
use Rattle.cluster.proofs.object_meta.prune_members.Goals as goal

pub invariant_of-members : goal.invariant_of-members
invariant_of-members c =
    subst AreMembers (sym (ap members_of c.drop_fields.ensures ∙ (list_of_fields c.prune_values.new.members.items ∙ (ap (λ ms. meta_members (members_of ms)) c.prune_values.ensures ∙ ap meta_members (list_of_values c.members.inside.members.items)))))
    (sorted_fields _ (sorted_values _ c.members.invariant))

pub returns : goal.returns
returns c =
    ap object (ap members_of c.drop_fields.ensures ∙ (list_of_fields c.prune_values.new.members.items ∙ (ap (λ ms. meta_members (members_of ms)) c.prune_values.ensures ∙ ap meta_members (list_of_values c.members.inside.members.items ∙ ap meta_values c.members.view_is))))
