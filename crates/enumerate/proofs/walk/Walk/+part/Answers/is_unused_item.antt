use Rattle.std.proofs.Common.{◌≡◌, true, false, sym, refl, ◌∙◌, arith}
use Rattle.jtree.specs.View.{data_of, items_of}
use Rattle.enumerate.specs.Internal.Nodes.{site, IsNodeOf}
use Rattle.enumerate.specs.Internal.Membership.{IsUnusedRow}
use Rattle.enumerate.proofs.walks.Membership.{lighter, answered, row_lighter}
use Rattle.enumerate.proofs.lists.UnusedItems.{any_found, unused_item, unused_row}
use Rattle.enumerate.proofs.lists.Whole.{always_unused}
use Rattle.enumerate.specs.View.{trees_of}
use Rattle.enumerate.proofs.walk.Walk.+part.Goals as goal

pub is_part-requires : goal.is_unused_item-is_part-requires
is_part-requires g t c κs within =
    let below = lighter c.args.self.now.plan.now c.args.list.now.child c.args.list.now.node c.requires.list.child in
    (omega (arith, c.decreases, below), (within, (omega (arith, c.requires.list.child, c.requires.list.node), c.requires.limit)))

pub returns-then-contains : goal.is_unused_item-returns-then-contains
returns-then-contains g t c =
    record {
      ok =
          let q = c.args.self.now.plan.now in
          let set = c.laws_of.ensures.sound.set _ c.requires.first.item (sym c.in-Whole.ensures) in
          (λ no. cc, λ h. let any = any_found q.pools _ _ c.args.items.now c.args.item.now set c.requires.first.are h.part.part in let both : true ≡ false = sym c.if-contains.true ∙ (c.contains.ensures.value ∙ (sym any ∙ h.unused)) in cc);
      steps = λ w wide. omega arith;
    }

pub is_part-requires-in-Whole : goal.is_unused_item-is_part-requires-in-Whole
is_part-requires-in-Whole g t c κs within =
    let below = lighter c.args.self.now.plan.now c.args.list.now.child c.args.list.now.node c.requires.list.child in
    (omega (arith, c.decreases, below), (within, (omega (arith, c.requires.list.child, c.requires.list.node), c.requires.limit)))

pub is_unused_row-requires : goal.is_unused_item-is_unused_row-requires
is_unused_row-requires g t c κs within =
    let q = c.args.self.now.plan.now in
    let map = c.laws_of.ensures.sound.map _ c.requires.first.item (sym c.in-Keys.ensures) in
    let below = row_lighter q c.args.list.now.child c.args.list.now.node c.requires.list.child in
    (omega (arith, c.decreases, below), (within, record { node = record { node = omega (arith, c.requires.list.child, c.requires.list.node); sort = map.row }; limit = c.requires.limit }))

pub returns-in-Free : goal.is_unused_item-returns-in-Free
returns-in-Free g t c =
    record {
      ok =
          let q = c.args.self.now.plan.now in
          answered c.is_part.result _ _ (λ part. record { part = record { part = part; nodes_are = refl }; unused = always_unused q.pools (site q c.args.list.now.node) c.laws_of.ensures.sound (sym c.in-Free.ensures) (data_of c.args.item.now) (items_of c.args.items.now) }) (λ h. h.part.part) c.is_part.ensures.ok;
      steps = c.is_part.ensures.steps;
    }

pub returns-else-contains : goal.is_unused_item-returns-else-contains
returns-else-contains g t c =
    record {
      ok =
          let q = c.args.self.now.plan.now in
          let set = c.laws_of.ensures.sound.set _ c.requires.first.item (sym c.in-Whole.ensures) in
          answered c.is_part-in-Whole.result _ _ (λ part. let any = any_found q.pools _ _ c.args.items.now c.args.item.now set c.requires.first.are part in record { part = record { part = part; nodes_are = refl }; unused = any ∙ (sym c.contains.ensures.value ∙ c.if-contains.false) }) (λ h. h.part.part) c.is_part-in-Whole.ensures.ok;
      steps = c.is_part-in-Whole.ensures.steps;
    }

pub returns-in-Keys : goal.is_unused_item-returns-in-Keys
returns-in-Keys g t c =
    record {
      ok =
          let q = c.args.self.now.plan.now in
          let i = c.args.list.now.node in
          let j = c.args.list.now.child in
          let v = data_of c.args.item.now in
          let at : IsNodeOf q j = omega (arith, c.requires.list.child, c.requires.list.node) in
          let map = c.laws_of.ensures.sound.map _ c.requires.first.item (sym c.in-Keys.ensures) in
          let rule = c.laws_of-2.ensures.rule in
          let sound = c.laws_of-2.ensures.sound in
          answered c.is_unused_row.result (IsUnusedRow q j (trees_of c.args.items.now) v) _
          (λ r. unused_item q i j rule sound map c.args.items.now v c.requires.first.are r)
          (λ f. unused_row q i j rule sound map c.args.items.now v c.requires.first.are f) c.is_unused_row.ensures.ok;
      steps = c.is_unused_row.ensures.steps;
    }
