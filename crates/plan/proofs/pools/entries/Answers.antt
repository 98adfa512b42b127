use Rattle.std.proofs.Common.{◌≡◌, ◌∙◌, List, [], ◌∷◌, Some, All, map, ap, sym, subst}
use Rattle.std.proofs.lemmas.List.Elements.{All-nil, All-cons}
use Rattle.jtree.specs.Data.{list, AreTrees, IsTree}
use Rattle.jtree.specs.Path.{under}
use Rattle.jtree.specs.View.{data_of, items_of}
use Rattle.jtree.specs.declared.value.Tree.{Tree}
use Rattle.plan.specs.Pools.Document.{entries_of}
use Rattle.plan.specs.Pools.Pools.{items_list}
use Rattle.plan.proofs.PoolLemmas.{trees_listed}
use Rattle.plan.proofs.pools.entries.Goals as goal

all_trees : (ts : List Tree) → AreTrees (items_of ts) → All IsTree (map data_of ts)
all_trees [] h = All-nil IsTree
all_trees (t ∷ ts) h = All-cons IsTree (data_of t) (map data_of ts) h.0 (all_trees ts h.1)

pub returns-in-Some-List-clause-entries : goal.returns-in-Some-List-clause-entries
returns-in-Some-List-clause-entries c =
    let at : Some (list c.in-Some-List.items) ≡ under (data_of c.args.document.now) c.args.name.now = rw c.in-Some-List.field-0-is at c.in-Some-List.ensures in
    ap (map data_of) c.as_slice.ensures.value ∙ trees_listed c.items.inside.items.items ∙ ap items_list c.items.view_is ∙ ap entries_of at

pub returns-in-Some-List-clause-trees : goal.returns-in-Some-List-clause-trees
returns-in-Some-List-clause-trees c = subst (λ ts. All IsTree (map data_of ts)) (sym c.as_slice.ensures.value) (all_trees c.items.inside.items.items c.items.invariant)
