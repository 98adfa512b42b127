-- In a set that can go on, some item is left.
use Rattle.std.proofs.Common.{◌≡◌, ◌≤◌, ◌+◌, ℕ, zero, suc, List, length, refl, sym, ◌∙◌, subst, arith}
use Rattle.jtree.specs.Data.{Data, Items, no_items, item}
use Rattle.jtree.specs.Nodes.{node_count, items_count}
use Rattle.jtree.specs.View.{items_of}
use Rattle.jtree.specs.declared.value.Tree.{Tree}
use Rattle.plan.specs.Samples.Sites.{Site}
use Rattle.stored.specs.Objects.Fault as fault
use Rattle.plan.specs.Pools.Pools.{Pools}
use Rattle.plan.specs.Samples.Part.{IsPart}
use Rattle.plan.specs.Samples.Sizes.{items_from, HasMore}
use Rattle.plan.specs.Samples.RuleOfParts.{AreParts}
use Rattle.plan.specs.Samples.Keys.{AreSetItems}
use Rattle.plan.specs.Samples.Question.{Question}
use Rattle.enumerate.specs.View.{trees_of}
use Rattle.enumerate.specs.Internal.Nodes.{site, HasSizeAt}
use Rattle.enumerate.specs.Internal.Candidates.{IsUnusedPart}
use Rattle.enumerate.specs.Internal.Lists.{AreItems, AreFirst, IsUnusedItem}
use Rattle.enumerate.proofs.lists.Lemmas.{HasItems, some_nodes, counted, some_items, item_unused}
use Rattle.enumerate.proofs.lists.Whole.{set_item_unused}

-- where each part has one node, there are as many nodes as items
one_each : (P : Pools) (M : Site) (ds : Items) → ((v : Data) → IsPart P M v → node_count v ≡ 1) → AreParts P M ds → items_count ds ≡ fault.items_count ds
one_each P M no_items one are = refl
one_each P M (item d ds) one are = omega (arith, one d are.0, one_each P M ds one are.1)

from_nodes : (t : ℕ) (ds : Items) → t ≤ fault.items_count ds → t + items_count (items_from t ds) ≤ items_count ds
from_nodes zero ds h = omega arith
from_nodes (suc t) no_items h = absurd (omega (arith, h))
from_nodes (suc t) (item d ds) h = omega (arith, from_nodes t ds (omega (arith, h)), some_nodes d)

from_some : (t : ℕ) (ds : Items) → t + 1 ≤ fault.items_count ds → 1 ≤ items_count (items_from t ds)
from_some zero no_items h = absurd (omega (arith, h))
from_some zero (item d ds) h = omega (arith, some_nodes d)
from_some (suc t) no_items h = absurd (omega (arith, h))
from_some (suc t) (item d ds) h = from_some t ds (omega (arith, h))

module _ (q : Question) (i c : ℕ) (laws : HasItems q i c) where
  first_item_unused : (used : Items) (k : ℕ) (ds : Items) → AreFirst q i c used → 1 + items_count used + k ≤ q.limit → 1 ≤ k → AreItems q i k used ds → (d : Data) × IsUnusedItem q i c (node_count d) used d
  first_item_unused used k no_items first within some a = absurd (omega (arith, some, a.nodes_are))
  first_item_unused used k (item d ds) first within some a = (d, item_unused q i c laws used k within d ds a)

  pub set_free : (n : ℕ) (used : List Tree) → AreFirst q i c (items_of used) → AreSetItems q.pools (site q i) (site q c) → HasSizeAt q c n → (m : ℕ) → HasMore q.pools q.limit (site q i) (length used + 1) m → (v : Data) × IsUnusedPart q c n (trees_of used) v
  set_free n used first set has m more =
      let k = items_count (items_from (length used) more.items) in
      let nodes : items_count (items_of used) ≡ length used = one_each q.pools (site q c) (items_of used) set.one first.are ∙ counted used in
      let many = more.many in
      let within : 1 + items_count (items_of used) + k ≤ q.limit = omega (arith, more.fits, from_nodes (length used) more.items (omega (arith, many)), nodes) in
      let at : HasMore q.pools q.limit (site q i) (length used) k = record { items = more.items; part = more.part; fits = more.fits; many = omega (arith, many); nodes_are = refl } in
      let r = some_items q i c laws (items_of used) k within first (subst (λ t. HasMore q.pools q.limit (site q i) t k) (sym (counted used)) at) in
      let f = first_item_unused (items_of used) k r.0 first within (from_some (length used) more.items many) r.1 in
      let size : node_count f.0 ≡ n = omega (arith, set.one f.0 f.1.part.part, set.one has.part has.is, has.nodes_are) in
      (f.0, (set_item_unused q i c n used f.0 set first.are).1 (subst (λ x. IsUnusedItem q i c x (items_of used) f.0) size f.1))
