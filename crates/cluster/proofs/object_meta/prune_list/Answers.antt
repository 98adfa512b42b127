use Rattle.std.proofs.Common.{sym, ap, ◌∙◌, subst}
use Rattle.jtree.specs.Data.{AreTrees, list}
use Rattle.jtree.specs.View.{items_of}
use Rattle.cluster.specs.Metadata.{each_entry}
use Rattle.cluster.proofs.MetaTrees.{list_of_entries, entries_are_trees}
use Rattle.cluster.proofs.object_meta.prune_list.Goals as goal

pub invariant_of-items : goal.invariant_of-items
invariant_of-items c =
    let m = c.args.managed in
    subst AreTrees (sym (ap items_of c.prune_each.ensures ∙ list_of_entries m c.items.inside.items.items)) (entries_are_trees m _ c.items.invariant)

pub returns : goal.returns
returns c =
    let m = c.args.managed in
    ap list (ap items_of c.prune_each.ensures ∙ (list_of_entries m c.items.inside.items.items ∙ ap (each_entry m) c.items.view_is))
