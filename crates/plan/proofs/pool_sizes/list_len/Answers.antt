use Rattle.std.proofs.Common.{◌≡◌, length, ap, sym, ◌∙◌, arith}
use Rattle.jtree.specs.View.{data_of}
use Rattle.plan.specs.Pools.Pools.{items_list}
use Rattle.plan.specs.Internal.PathLists.{list_count}
use Rattle.plan.proofs.PoolLemmas.{listed_length}
use Rattle.plan.proofs.pool_sizes.list_len.Goals as goal

pub returns-in-List : goal.returns-in-List
returns-in-List c =
    let v = c.items.inside.items in
    let count : c.len.result ≡ length (items_list c.in-List.items) = omega (arith, c.len.ensures, v.ok.0, listed_length v.items, ap (λ ds. length (items_list ds)) c.items.view_is) in
    count ∙ ap (λ t. list_count (data_of t)) (sym c.in-List.is)
