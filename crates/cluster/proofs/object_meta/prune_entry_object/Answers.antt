use Rattle.std.proofs.Common.{sym, ap, ◌∙◌, subst}
use Rattle.jtree.specs.Data.{AreMembers, object}
use Rattle.jtree.specs.View.{members_of}
use Rattle.cluster.specs.Metadata.{entry_members}
use Rattle.cluster.proofs.MetaTrees.{list_of_entry, sorted_entry}
use Rattle.cluster.proofs.object_meta.prune_entry_object.Goals as goal

pub invariant_of-members : goal.invariant_of-members
invariant_of-members c =
    let m = c.args.managed in
    subst AreMembers (sym (ap members_of c.drop_in_entry.ensures ∙ list_of_entry m c.members.inside.members.items)) (sorted_entry m _ c.members.invariant)

pub returns : goal.returns
returns c =
    let m = c.args.managed in
    ap object (ap members_of c.drop_in_entry.ensures ∙ (list_of_entry m c.members.inside.members.items ∙ ap (entry_members m) c.members.view_is))
