use Rattle.std.proofs.Common.{◌≡◌, ◌∙◌, Some, map, ap}
use Rattle.std.specs.Prelude.{option_and_then}
use Rattle.jtree.specs.Data.{list}
use Rattle.jtree.specs.Path.{member_at}
use Rattle.jtree.specs.View.{data_of}
use Rattle.plan.specs.Pools.Pools.{items_list, entries_in}
use Rattle.plan.proofs.PoolLemmas.{trees_listed}
use Rattle.plan.proofs.pools.list_under.Goals as goal

pub returns-in-Some-List : goal.returns-in-Some-List
returns-in-Some-List c =
    let at : Some (list c.in-Some-List.items) ≡ member_at c.args.name.now c.args.lists.now = rw c.in-Some-List.field-0-is at c.in-Some-List.ensures in
    let listed = ap (map data_of) c.as_slice.ensures.value ∙ trees_listed c.items.inside.items.items ∙ ap items_list c.items.view_is in
    ap Some listed ∙ ap (option_and_then entries_in) at
