use Rattle.std.proofs.lemmas.Result.{IfOk-weaker}
use Rattle.enumerate.proofs.samples.Following.{continue_same}
use Rattle.enumerate.proofs.lists.KeyItems.{unused_row, row_unused, item_open, item_least}
use Rattle.plan.specs.Samples.Sites.{sites_of}
use Rattle.enumerate.proofs.walks.Membership.{lighter, row_lighter}
use Rattle.enumerate.proofs.walks.Costs.{costs_within}
use Rattle.enumerate.proofs.walks.Least.{least_same}
use Rattle.enumerate.specs.Internal.Candidates.{IsUnusedPart, stack_of}
use Rattle.std.proofs.Common.{sym, ◌∙◌, arith, ◌≡◌, ◌-◌, ◌<◌, length}
use Rattle.plan.specs.Samples.Candidates.{distinct_of}
use Rattle.plan.specs.declared.sort.Distinct.TheVariants as distinct
use Rattle.enumerate.specs.View.{trees_of}
use Rattle.enumerate.proofs.lists.Lemmas.{some_size}
use Rattle.enumerate.proofs.lists.Whole.{part_unused, set_item_unused}
use Rattle.enumerate.proofs.lists.SetItems.{set_free}
use Rattle.jtree.specs.Order.{tree_cmp}
use Rattle.jtree.specs.View.{data_of, items_of}
use Rattle.enumerate.specs.Internal.Nodes.{site, IsPartOf}
use Rattle.enumerate.specs.Internal.Rows.{IsRow}
use Rattle.enumerate.specs.Internal.Lists.{IsUnusedItem}
use Rattle.enumerate.proofs.walk.Walk.+first.Goals as goal

pub first_part-requires : goal.first_item-first_part-requires
first_part-requires g t c κs within =
    let q = c.args.self.now.plan.now in
    (omega (arith, c.decreases, lighter q c.args.list.now.child c.args.list.now.node c.requires.list.child), (within, (omega (arith, c.requires.list.child, c.requires.list.node), (c.requires.size, c.requires.limit))))

pub first_unused-requires : goal.first_item-first_unused-requires
first_unused-requires g t c =
    let q = c.args.self.now.plan.now in
    record {
      node = record { node = omega (arith, c.requires.list.child, c.requires.list.node); sort = (c.laws_of.ensures.sound.set (site q c.args.list.now.child) c.requires.first.item (sym c.distinct.ensures ∙ c.in-Whole.is)).leaf };
      limit = c.requires.limit;
      free =
          set_free q c.args.list.now.node c.args.list.now.child (record { rule = c.laws_of.ensures.rule; ends = c.laws_of.ensures.completed; item = c.requires.first.item }) c.args.size c.args.items.now c.requires.first
          (c.laws_of.ensures.sound.set (site q c.args.list.now.child) c.requires.first.item (sym c.distinct.ensures ∙ c.in-Whole.is)) c.requires.size c.requires.more.0 c.requires.more.1;
    }

pub returns-in-Free : goal.first_item-returns-in-Free
returns-in-Free g t c =
    let q = c.args.self.now.plan.now in
    record {
      ok =
          let free : distinct_of (site q c.args.list.now.node) ≡ distinct.Free = sym c.distinct.ensures ∙ c.in-Free.is in
          IfOk-weaker c.first_part.result _ _
          (λ v h. least_same tree_cmp (IsPartOf q c.args.list.now.child c.args.size) (IsUnusedItem q c.args.list.now.node c.args.list.now.child c.args.size (items_of c.args.items.now)) (data_of v)
          (λ u p. part_unused q c.args.list.now.node c.args.list.now.child c.args.size (items_of c.args.items.now) u c.laws_of.ensures.sound free p) (λ u f. f.part) h) c.first_part.ensures.ok;
      following =
          let i = c.args.list.now.node in
          let k = c.args.list.now.child in
          let n = c.args.size in
          let free : distinct_of (site q i) ≡ distinct.Free = sym c.distinct.ensures ∙ c.in-Free.is in
          IfOk-weaker c.first_part.result _ _ (λ v h. continue_same (IsPartOf q k n) (IsUnusedItem q i k n (items_of c.args.items.now)) (data_of v) (stack_of c.first_part.new.scratch.following.items) (λ u p. part_unused q i k n (items_of c.args.items.now) u c.laws_of.ensures.sound free p) (λ u f. f.part) h) c.first_part.ensures.following;
      steps = c.first_part.ensures.steps;
    }

pub returns-in-Whole : goal.first_item-returns-in-Whole
returns-in-Whole g t c =
    let q = c.args.self.now.plan.now in
    record {
      ok =
          let set = c.laws_of.ensures.sound.set (site q c.args.list.now.child) c.requires.first.item (sym c.distinct.ensures ∙ c.in-Whole.is) in
          IfOk-weaker c.first_unused.result _ _
          (λ v h. least_same tree_cmp (IsUnusedPart q c.args.list.now.child c.args.size (trees_of c.args.items.now)) (IsUnusedItem q c.args.list.now.node c.args.list.now.child c.args.size (items_of c.args.items.now)) (data_of v)
          (λ u p. (set_item_unused q c.args.list.now.node c.args.list.now.child c.args.size c.args.items.now u set c.requires.first.are).0 p) (λ u f. (set_item_unused q c.args.list.now.node c.args.list.now.child c.args.size c.args.items.now u set c.requires.first.are).1 f) h) c.first_unused.ensures.ok;
      following =
          let i = c.args.list.now.node in
          let k = c.args.list.now.child in
          let n = c.args.size in
          let set = c.laws_of.ensures.sound.set (site q k) c.requires.first.item (sym c.distinct.ensures ∙ c.in-Whole.is) in
          IfOk-weaker c.first_unused.result _ _ (λ v h. continue_same (IsUnusedPart q k n (trees_of c.args.items.now)) (IsUnusedItem q i k n (items_of c.args.items.now)) (data_of v) (stack_of c.first_unused.new.scratch.following.items)
          (λ u p. (set_item_unused q i k n c.args.items.now u set c.requires.first.are).0 p) (λ u f. (set_item_unused q i k n c.args.items.now u set c.requires.first.are).1 f) h) c.first_unused.ensures.following;
      steps = costs_within c.args.self.now.plan.now c.args.meter.now c.first_unused.new.meter 1 c.args.size (some_size c.requires.size) c.first_unused.ensures.steps;
    }

pub first_row-requires : goal.first_item-first_row-requires
first_row-requires g t c κs within =
    let q = c.args.self.now.plan.now in
    let node : c.args.list.now.child < length (sites_of q.pools q.root) = omega (arith, c.requires.list.child, c.requires.list.node) in
    let items = c.laws_of.ensures.sound.map (site q c.args.list.now.child) c.requires.first.item (sym c.distinct.ensures ∙ c.in-Keys.is) in
    let counts = c.laws_of-2.ensures.counts in
    let some = some_size c.requires.size in (
      omega (arith, c.decreases, row_lighter q c.args.list.now.child c.args.list.now.node c.requires.list.child),
      (
        within,
        (
          record { node = node; sort = items.row },
          (
            some,
            (
              c.requires.limit,
              (item_open q c.args.list.now.node c.args.list.now.child c.laws_of.ensures.rule c.laws_of-2.ensures.rule c.laws_of-2.ensures.sound items c.laws_of.ensures.free counts.0 counts.1 c.args.items.now c.args.size c.requires.more.0
                  (omega (arith, c.laws_of.ensures.limit)) c.requires.first c.requires.more.1 c.requires.size),
            ),
          ),
        ),
      ),
    )

pub returns-in-Keys : goal.first_item-returns-in-Keys
returns-in-Keys g t c =
    let q = c.args.self.now.plan.now in
    let some = some_size c.requires.size in
    record {
      ok =
          let items = c.laws_of.ensures.sound.map (site q c.args.list.now.child) c.requires.first.item (sym c.distinct.ensures ∙ c.in-Keys.is) in
          IfOk-weaker c.first_row.result _ _ (λ v h. item_least q c.args.list.now.node c.args.list.now.child c.laws_of-2.ensures.rule c.laws_of-2.ensures.sound items c.args.items.now c.args.size (data_of v) some c.requires.first.are
          h) c.first_row.ensures.ok;
      following =
          let i = c.args.list.now.node in
          let k = c.args.list.now.child in
          let n = c.args.size in
          let items = c.laws_of.ensures.sound.map (site q k) c.requires.first.item (sym c.distinct.ensures ∙ c.in-Keys.is) in
          let rule = c.laws_of-2.ensures.rule in
          let sound = c.laws_of-2.ensures.sound in
          let cs = stack_of c.first_row.new.scratch.following.items in
          IfOk-weaker c.first_row.result _ _ (λ v h. continue_same (IsRow q k (n - 1) (trees_of c.args.items.now)) (IsUnusedItem q i k n (items_of c.args.items.now)) (data_of v) cs
          (λ u r. row_unused q i k rule sound items c.args.items.now n u some c.requires.first.are r) (λ u f. unused_row q i k rule sound items c.args.items.now n u c.requires.first.are f)
          h) c.first_row.ensures.following;
      steps = c.first_row.ensures.steps;
    }
