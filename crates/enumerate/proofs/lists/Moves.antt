-- Items that move: the next ones after others, as the next ones of the whole list.
use Rattle.std.proofs.Common.{◌≡◌, ◌≤◌, ◌+◌, ◌-◌, ℕ, Some, sym, subst, arith}
use Rattle.jtree.specs.Data.{Items, no_items, item}
use Rattle.jtree.specs.Nodes.{node_count, most_nodes, items_count}
use Rattle.jtree.specs.Order.{items_cmp}
use Rattle.plan.specs.Samples.NoDeadEnd.{items_then}
use Rattle.plan.specs.Samples.Question.{Question}
use Rattle.enumerate.specs.Least.{IsNext}
use Rattle.enumerate.specs.Internal.Lists.{AreItems, AreFirst}
use Rattle.enumerate.proofs.lists.Lemmas.{HasItems, some_nodes, then_nodes, then_then, then_none, next_after}

-- the items in front are first ones too
abbrev pub AreFirstOnes : Question → ℕ → ℕ → Items → Items → Type 0
AreFirstOnes q i c used no_items = AreFirst q i c used
AreFirstOnes q i c used (item d front) = AreFirst q i c used × AreFirstOnes q i c (items_then used (item d no_items)) front

module _ (q : Question) (i c : ℕ) (laws : HasItems q i c) where
  pub next_whole : (used front : Items) (m : ℕ) (old new : Items) → 1 + items_count used + (items_count front + m) ≤ q.limit → items_count front + m ≤ most_nodes → AreFirstOnes q i c used front
      → IsNext items_cmp (AreItems q i m (items_then used front)) old (Some new) → IsNext items_cmp (AreItems q i (items_count front + m) used) (items_then front old) (Some (items_then front new))
  next_whole used no_items m old new within top are h =
      subst (λ k. IsNext items_cmp (AreItems q i k used) old (Some new)) (omega arith) (subst (λ u. IsNext items_cmp (AreItems q i m u) old (Some new)) (then_none used) h)
  next_whole used (item d front) m old new within top are h =
      let more = items_then used (item d no_items) in
      let inner = subst (λ u. IsNext items_cmp (AreItems q i m u) old (Some new)) (sym (then_then used (item d no_items) front)) h in
      let rest = next_whole more front m old new (omega (arith, then_nodes used (item d no_items), within)) (omega (arith, top)) are.1 inner in
      let left : items_count front + m ≡ items_count (item d front) + m - node_count d = omega arith in
      next_after q i c laws used (items_count (item d front) + m) within are.0 (omega (arith, some_nodes d)) top d (items_then front old) (items_then front new) (omega arith)
      (subst (λ k. IsNext items_cmp (AreItems q i k more) (items_then front old) (Some (items_then front new))) left rest)
