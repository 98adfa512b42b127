use Rattle.std.proofs.Common.{ap, sym, ◌∙◌}
use Rattle.plan.specs.Samples.Candidates.{distinct_at}
use Rattle.plan.specs.Internal.Arena.{IsRight}
use Rattle.plan.specs.Samples.Sites.{site_at}
use Rattle.plan.proofs.CutLemmas.{list_right}
use Rattle.plan.proofs.FixedLemmas.{item_unfixed}
use Rattle.plan.proofs.list_entries.list_entry.Goals as goal

pub returns : goal.returns
returns g c = λ P sites i m d right below inside is null bounds item o sound.
    let holds = g.Z.SizeSet.holds in
    let limit = c.args.arena.now.limit in
    let v = c.args.arena.now.values in
    let l = c.args.list.now in
    let s = site_at sites i in
    let b = c.item_bounds-bounds.result in
    let cut_to = c.item_bounds-bounds.ensures P sites i s right below inside m d is bounds item o sound in
    let r : IsRight holds limit P v sites c.args.item c.entry.result.now = rw (← c.entry.ensures) at (right c.args.item c.entry.result.now below) in
    let are = c.in_ok-more.ensures.sets P (site_at sites c.args.item) r.sizes in
    list_right holds limit P v sites i c.args.item c.distinct.result c.in_ok-more.more b c.args.nullable c.index.result.now c.whole_sizes-sizes.result c.parts_one_level.ensures c.requires.limit.0 item below
    (rw (item_unfixed P s (site_at sites c.args.item) item).0 (c.distinct.ensures ∙ sym (ap distinct_at is))) null cut_to c.in_ok-more.ensures.whole are c.index.ensures c.whole_sizes-sizes.ensures
