use Rattle.std.proofs.Common.{sym, ◌∙◌, arith, ◌≡◌, ◌-◌, ◌<◌, length}
use Rattle.std.proofs.lemmas.Result.{IfOk-weaker}
use Rattle.jtree.specs.Nodes.{node_count}
use Rattle.plan.specs.Samples.Sites.{sites_of}
use Rattle.enumerate.specs.Internal.Nodes.{site, IsPartOf}
use Rattle.enumerate.specs.Internal.Candidates.{stack_of, IsUnusedPart}
use Rattle.enumerate.specs.Internal.Rows.{IsRow}
use Rattle.enumerate.proofs.walks.Costs.{costs_thrice, costs_less}
use Rattle.enumerate.proofs.samples.Following.{moved_continues_same}
use Rattle.enumerate.proofs.lists.Lemmas.{some_nodes, few_items, counted}
use Rattle.enumerate.proofs.walks.Moves.{moved_same}
use Rattle.jtree.specs.View.{data_of, items_of}
use Rattle.plan.specs.Samples.Candidates.{distinct_of}
use Rattle.enumerate.specs.Internal.Lists.{IsUnusedItem}
use Rattle.enumerate.specs.View.{trees_of}
use Rattle.enumerate.proofs.lists.KeyItems.{items_used, unused_row, row_unused}
use Rattle.enumerate.proofs.walks.Membership.{lighter, row_lighter}
use Rattle.enumerate.proofs.lists.Whole.{part_unused, set_item_unused}
use Rattle.enumerate.proofs.walk.Walk.+next.Goals as goal
use Rattle.plan.specs.declared.sort.Distinct.TheVariants as distinct

pub next_row-requires : goal.next_item-next_row-requires
next_row-requires g t c κs within =
    let q = c.args.self.now.plan.now in
    let i = c.args.list.now.node in
    let k = c.args.list.now.child in
    let n = node_count (data_of c.args.item) in
    let node : k < length (sites_of q.pools q.root) = omega (arith, c.requires.list.child, c.requires.list.node) in
    let items = c.laws_of.ensures.sound.map (site q k) c.requires.first.item (sym c.distinct.ensures ∙ c.in-Keys.is) in
    let rule = c.laws_of-2.ensures.rule in
    let sound = c.laws_of-2.ensures.sound in
    let known = items_used q i k rule sound items c.args.items.now (omega (arith, few_items (items_of c.args.items.now), counted c.args.items.now, c.requires.within, c.laws_of.ensures.limit)) c.requires.first.are c.requires.first.apart in
    let row = unused_row q i k rule sound items c.args.items.now n (data_of c.args.item) c.requires.first.are c.requires.item in
    (omega (arith, c.decreases, row_lighter q k i c.requires.list.child), (within, (record { node = node; sort = items.row }, (known, (row, omega (arith, c.requires.within))))))

pub next_part-requires : goal.next_item-next_part-requires
next_part-requires g t c κs within =
    let q = c.args.self.now.plan.now in
    let i = c.args.list.now.node in
    let k = c.args.list.now.child in
    (omega (arith, c.decreases, lighter q k i c.requires.list.child), (within, (omega (arith, c.requires.list.child, c.requires.list.node), (c.requires.item.part.part, omega (arith, c.requires.within)))))

pub next_unused-requires : goal.next_item-next_unused-requires
next_unused-requires g t c =
    record {
      node = record {
        node = omega (arith, c.requires.list.child, c.requires.list.node);
        sort =
            let q = c.args.self.now.plan.now in
            let i = c.args.list.now.node in
            let k = c.args.list.now.child in
            let whole : distinct_of (site q i) ≡ distinct.Whole = sym c.distinct.ensures ∙ c.in-Whole.is in
            (c.laws_of.ensures.sound.set (site q k) c.requires.first.item whole).leaf;
      };
      limit = omega (arith, c.requires.within);
    }

pub returns-in-Free : goal.next_item-returns-in-Free
returns-in-Free g t c =
    let q = c.args.self.now.plan.now in
    let i = c.args.list.now.node in
    let k = c.args.list.now.child in
    let n = node_count (data_of c.args.item) in
    let free : distinct_of (site q i) ≡ distinct.Free = sym c.distinct.ensures ∙ c.in-Free.is in
    record {
      ok = IfOk-weaker c.next_part.result _ _ (λ m h. moved_same (IsPartOf q k n) (IsUnusedItem q i k n (items_of c.args.items.now)) (data_of c.args.item) m (λ u p. part_unused q i k n (items_of c.args.items.now) u c.laws_of.ensures.sound free p) (λ u f. f.part) h) c.next_part.ensures.ok;
      following = IfOk-weaker c.next_part.result _ _ (λ m h. moved_continues_same (IsPartOf q k n) (IsUnusedItem q i k n (items_of c.args.items.now)) m (stack_of c.next_part.new.scratch.following.items) (λ u p. part_unused q i k n (items_of c.args.items.now) u c.laws_of.ensures.sound free p) (λ u f. f.part) h) c.next_part.ensures.following;
      steps = c.next_part.ensures.steps;
    }

pub returns-in-Whole : goal.next_item-returns-in-Whole
returns-in-Whole g t c =
    let q = c.args.self.now.plan.now in
    let i = c.args.list.now.node in
    let k = c.args.list.now.child in
    let n = node_count (data_of c.args.item) in
    let set = c.laws_of.ensures.sound.set (site q k) c.requires.first.item (sym c.distinct.ensures ∙ c.in-Whole.is) in
    record {
      ok = IfOk-weaker c.next_unused.result _ _ (λ m h. moved_same (IsUnusedPart q k n (trees_of c.args.items.now)) (IsUnusedItem q i k n (items_of c.args.items.now)) (data_of c.args.item) m
          (λ u p. (set_item_unused q i k n c.args.items.now u set c.requires.first.are).0 p) (λ u f. (set_item_unused q i k n c.args.items.now u set c.requires.first.are).1 f) h) c.next_unused.ensures.ok;
      following = IfOk-weaker c.next_unused.result _ _ (λ m h. moved_continues_same (IsUnusedPart q k n (trees_of c.args.items.now)) (IsUnusedItem q i k n (items_of c.args.items.now)) m (stack_of c.next_unused.new.scratch.following.items)
          (λ u p. (set_item_unused q i k n c.args.items.now u set c.requires.first.are).0 p) (λ u f. (set_item_unused q i k n c.args.items.now u set c.requires.first.are).1 f) h) c.next_unused.ensures.following;
      steps = (costs_thrice c.args.self.now.plan.now c.args.meter.now c.next_unused.new.meter (node_count (data_of c.args.item)) (some_nodes (data_of c.args.item)) c.next_unused.ensures.steps, IfOk-weaker c.next_unused.result _ _ (λ m h. costs_less c.args.self.now.plan.now m c.args.meter.now c.next_unused.new.meter (node_count (data_of c.args.item)) (some_nodes (data_of c.args.item)) c.next_unused.ensures.steps) c.next_unused.ensures.ok);
    }

pub returns-in-Keys : goal.next_item-returns-in-Keys
returns-in-Keys g t c =
    let q = c.args.self.now.plan.now in
    let i = c.args.list.now.node in
    let k = c.args.list.now.child in
    let n = node_count (data_of c.args.item) in
    let node : k < length (sites_of q.pools q.root) = omega (arith, c.requires.list.child, c.requires.list.node) in
    let items = c.laws_of.ensures.sound.map (site q k) c.requires.first.item (sym c.distinct.ensures ∙ c.in-Keys.is) in
    let rule = c.laws_of-2.ensures.rule in
    let sound = c.laws_of-2.ensures.sound in
    let some = some_nodes (data_of c.args.item) in
    record {
      ok = IfOk-weaker c.next_row.result _ _ (λ m h. moved_same (IsRow q k (n - 1) (trees_of c.args.items.now)) (IsUnusedItem q i k n (items_of c.args.items.now)) (data_of c.args.item) m
          (λ u r. row_unused q i k rule sound items c.args.items.now n u some c.requires.first.are r) (λ u f. unused_row q i k rule sound items c.args.items.now n u c.requires.first.are f)
          h) c.next_row.ensures.ok;
      following =
          let cs = stack_of c.next_row.new.scratch.following.items in
          IfOk-weaker c.next_row.result _ _ (λ m h. moved_continues_same (IsRow q k (n - 1) (trees_of c.args.items.now)) (IsUnusedItem q i k n (items_of c.args.items.now)) m cs
          (λ u r. row_unused q i k rule sound items c.args.items.now n u some c.requires.first.are r) (λ u f. unused_row q i k rule sound items c.args.items.now n u c.requires.first.are f)
          h) c.next_row.ensures.following;
      steps = c.next_row.ensures.steps;
    }
