use Rattle.std.proofs.Common.{◌≡◌, subst}
use Rattle.schema.specs.Nodes.Node.{node, list}
use Rattle.plan.specs.Samples.Sites.{site_at}
use Rattle.plan.proofs.CutLemmas.{free_cut, set_cut, map_cut, set_items, map_items}
use Rattle.plan.proofs.FixedLemmas.{leaf_any}
use Rattle.plan.proofs.SetLemmas.{plain_leaf, scalar_one}
use Rattle.plan.proofs.TupleLemmas.{count_parts}
use Rattle.plan.proofs.list_entries.item_bounds.Goals as goal

pub returns-in-Atomic : goal.returns-in-Atomic
returns-in-Atomic g c = λ P sites i s right below inside n d is bounds item o sound.
    let l = c.args.list.now in
    let here = subst (λ ty. s.node ≡ node n d (list l.item ty l.keys.items l.bounds)) c.in-Atomic.is is in
    rw (← bounds) (free_cut c.parts_one_level.ensures P c.args.arena.now.limit s (site_at sites c.args.item) n d l.item l.keys.items l.bounds here item)

pub returns-in-Set : goal.returns-in-Set
returns-in-Set g c = λ P sites i s right below inside n d is bounds item o sound.
    let l = c.args.list.now in
    let M = site_at sites c.args.item in
    let here = subst (λ ty. s.node ≡ node n d (list l.item ty l.keys.items l.bounds)) c.in-Set.is is in
    let plain = set_items P s M n d l.item c.in-Set.field-0 l.keys.items l.bounds here item sound in
    rw (c.cut_bounds.ensures, ← bounds)
    (set_cut c.stored_by_parts.ensures c.parts_one_level.ensures P c.args.arena.now.limit s M n d l.item c.in-Set.field-0 l.keys.items l.bounds c.count.result here item plain
    (count_parts P c.args.arena.now.limit M c.count.result c.requires.some (scalar_one c.stored_by_parts.ensures P M plain) (c.count.ensures P sites i right below inside (leaf_any M.fixed _ (plain_leaf M.node plain)))))

pub returns-in-Map : goal.returns-in-Map
returns-in-Map g c = λ P sites i s right below inside n d is bounds item o sound.
    let l = c.args.list.now in
    let M = site_at sites c.args.item in
    let here = subst (λ ty. s.node ≡ node n d (list l.item ty l.keys.items l.bounds)) c.in-Map.is is in
    let items = map_items c.stored_by_parts.ensures P s M n d l.item c.in-Map.field-0 l.keys.items l.bounds here item o sound in
    rw (c.cut_bounds-in-Map.ensures, ← bounds)
    (map_cut c.stored_by_parts.ensures c.parts_one_level.ensures P c.args.arena.now.limit s M n d l.item c.in-Map.field-0 l.keys.items l.bounds c.item_tuples.result c.requires.limit here item items.0 items.1 (c.item_tuples.ensures P sites i right below inside items.2 items.3))
