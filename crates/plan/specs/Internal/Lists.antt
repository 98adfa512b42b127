-- The lists of parts of one site, with and without regard to items that are alike, and what the tables of a list hold.
use Rattle.std.specs.Prelude.{◌≡◌, ℕ, ◌+◌, ◌-◌, ◌≤◌, ◌<◌, ◌↔◌, List, length, Bool, true, Option, Some, None, get_or, min}
use Rattle.jtree.specs.Data.{Data, Items}
use Rattle.jtree.specs.Nodes.{items_count}
use Rattle.schema.specs.declared.node.Bounds.{Bounds}
use Rattle.stored.specs.Objects.Fault as fault
use Rattle.stored.specs.Objects.StoredByParts.{are_apart, IsWithin}
use Rattle.plan.specs.Pools.Pools.{Pools}
use Rattle.plan.specs.Samples.Sites.{Site}
use Rattle.plan.specs.Samples.Sizes.{HasSize, HasMore, items_from, IsUpTo}
use Rattle.plan.specs.Samples.RuleOfParts.{AreParts}

-- parts of the site can follow t items, m nodes in all, so that the bounds hold
pub record CanFollow (P : Pools) (M : Site) (b : Bounds) (t m : ℕ) : Type 0 where
  pub items : Items
  pub are : AreParts P M items
  pub within : IsWithin b (t + fault.items_count items)
  pub nodes_are : items_count items ≡ m

-- some list of parts with at most as many nodes as the limit has at least t items, and those after the first t have m nodes
pub record HasMoreFree (P : Pools) (limit : ℕ) (M : Site) (b : Bounds) (t m : ℕ) : Type 0 where
  pub items : Items
  pub are : AreParts P M items
  pub within : IsWithin b (fault.items_count items)
  pub fits : 1 + items_count items ≤ limit
  pub many : t ≤ fault.items_count items
  pub nodes_are : items_count (items_from t items) ≡ m

-- the same of lists in which no two items are alike
pub record HasMoreApart (P : Pools) (limit : ℕ) (M : Site) (alike : Data → Data → Bool) (b : Bounds) (t m : ℕ) : Type 0 where
  pub items : Items
  pub are : AreParts P M items
  pub apart : are_apart alike items ≡ true
  pub within : IsWithin b (fault.items_count items)
  pub fits : 1 + items_count items ≤ limit
  pub many : t ≤ fault.items_count items
  pub nodes_are : items_count (items_from t items) ≡ m

-- the lists of the site have the sizes of lists of parts within these bounds, without regard to items that are alike
abbrev pub IsCutTo : Pools → ℕ → Site → Site → Bounds → Type 0
IsCutTo P limit s M b = (t m : ℕ) → HasMore P limit s t m ↔ HasMoreFree P limit M b t m

-- at most this many, where there are no more
abbrev pub most_or : Option ℕ → ℕ → ℕ
most_or None n = n
most_or (Some m) n = min m n

abbrev pub cut : ℕ → Bounds → Bounds
cut n b = record { least = b.least; most = Some (most_or b.most n) }

-- s is the least size of the site, or above the limit where it has none up to there
pub record IsLeastSize (P : Pools) (limit : ℕ) (M : Site) (s : ℕ) : Type 0 where
  pub below : (n : ℕ) → HasSize P M n → s ≤ n
  pub reached : s ≤ limit → HasSize P M s

-- the sets of what can follow, after as many items as the limit first: each up to the nodes that are left where each item before
-- took one
abbrev pub AreFollowing : {Z : Type 0} → (Z → ℕ → Type 0) → ℕ → Pools → Site → Bounds → List Z → Type 0
AreFollowing {Z} holds limit P M b sets = (k : ℕ) (z : Z) → k < length sets → IsUpTo k (holds (get_or sets k z)) (CanFollow P M b (limit - k))

-- the sets of what the items can still take, at each number of items before
abbrev pub AreMore : {Z : Type 0} → (Z → ℕ → Type 0) → ℕ → Pools → Site → Bounds → List Z → Type 0
AreMore {Z} holds limit P M b sets = (t : ℕ) (z : Z) → t < length sets → IsUpTo limit (holds (get_or sets t z)) (HasMoreFree P limit M b t)
