-- What the rules of a schema make of the slots and the items of a site: slots are in the order of their names, keys are always
-- there, and the items of sets and map lists can be distinguished (apiextensions.k8s.io/v1, merge strategies).
use Rattle.std.specs.Prelude.{◌≡◌, ℕ, ◌-◌, ◌^◌, ◌≤◌, ◌↔◌, List, [], ◌∷◌, true, false, Some, map, filter, min, unwrap_or, Contains}
use Rattle.std.specs.declared.cmp.Ordering.TheVariants.{Less}
use Rattle.jtree.specs.Data.{Data, Items, Members}
use Rattle.jtree.specs.Data as tree
use Rattle.jtree.specs.Equality.{equal_by}
use Rattle.jtree.specs.Nodes.{node_count}
use Rattle.jtree.specs.Order.{text_cmp}
use Rattle.jtree.specs.Path.{member_at}
use Rattle.jtree.specs.declared.equality.Equality.{Equality}
use Rattle.stored.specs.Objects.Fault.{items_count}
use Rattle.stored.specs.Objects.Tests.{is_same}
use Rattle.stored.specs.Objects.StoredByParts.{are_apart}
use Rattle.plan.specs.Pools.Pools.{Pools}
use Rattle.plan.specs.Samples.Part.{IsPart}
use Rattle.plan.specs.Samples.Sites.{Site, item_site, Slot, slots}
use Rattle.plan.specs.Samples.Candidates.{sort_of, distinct_of, HasCount}
use Rattle.plan.specs.Samples.RuleOfParts.{AreParts, alike_at, admits_null}
use Rattle.plan.specs.Samples.NoDeadEnd.{is_key, AreCounts, product}
use Rattle.plan.specs.declared.sort.Distinct.TheVariants.{Free, Whole, Keys}
use Rattle.plan.specs.declared.sort.Sort.TheVariants.{Leaf, Row}

-- each name comes before all later ones, by bytes
abbrev pub AreInOrder : List Slot → Type 0
AreInOrder [] = Unit {0}
AreInOrder (s ∷ ss) = ((t : Slot) → Contains ss t → text_cmp s.name t.name ≡ Less) × AreInOrder ss

-- a key has to have a value: a scalar, and not null; no two of its values count as the same
pub record IsKeySlot (P : Pools) (s : Slot) : Type 0 where
  pub must : s.must ≡ true
  pub leaf : sort_of s.site ≡ Leaf
  pub one : (v : Data) → IsPart P s.site v → node_count v ≡ 1
  pub no_null : IsPart P s.site tree.null → ⊥
  pub one_value : (e : Equality) (v w : Data) → IsPart P s.site v → IsPart P s.site w → equal_by e v w ≡ true → v ≡ w

abbrev pub AreKeySlots : Pools → List Slot → Type 0
AreKeySlots P ss = (s : Slot) → Contains ss s → s.key ≡ true → IsKeySlot P s

-- how many tuples of candidates the keys among the slots have; the number saturates
abbrev pub HasTuples : Pools → List Slot → ℕ → Type 0
HasTuples P ss n = (counts : List ℕ) × (AreCounts P (filter is_key ss) counts × (n ≡ min (product counts) (2 ^ 64 - 1)))

abbrev pub under : Members → Slot → Data
under ms s = unwrap_or (member_at s.name ms) tree.null

-- what an object has under the keys among the slots
abbrev pub key_under : List Slot → Data → List Data
key_under ss (tree.object ms) = map (under ms) (filter is_key ss)
key_under ss _ = []

-- the items of a set: scalars, of which no two are equal; there are at most as many as there are candidates
pub record AreSetItems (P : Pools) (s M : Site) : Type 0 where
  pub leaf : sort_of M ≡ Leaf
  pub one : (v : Data) → IsPart P M v → node_count v ≡ 1
  pub alike : (v w : Data) → IsPart P M v → IsPart P M w → alike_at s v w ≡ is_same v w
  pub most : (ds : Items) (n : ℕ) → AreParts P M ds → are_apart (alike_at s) ds ≡ true → HasCount (IsPart P M) n → items_count ds ≤ n

-- the items of a map list: objects, of which no two have the same under all keys; there are at most as many as there are tuples of
-- candidates of the keys
pub record AreMapItems (P : Pools) (s M : Site) : Type 0 where
  pub row : sort_of M ≡ Row
  pub never_null : admits_null P M ≡ false
  pub alike : (v w : Data) → IsPart P M v → IsPart P M w → (alike_at s v w ≡ true) ↔ (key_under (slots P M) v ≡ key_under (slots P M) w)
  pub most : (ds : Items) (counts : List ℕ) → AreParts P M ds → are_apart (alike_at s) ds ≡ true → AreCounts P (filter is_key (slots P M)) counts → items_count ds ≤ product counts

-- what is known of the slots and the items of a site
pub record HasSoundParts (P : Pools) (s : Site) : Type 0 where
  pub order : AreInOrder (slots P s)
  pub keys : AreKeySlots P (slots P s)
  pub free : (v w : Data) → distinct_of s ≡ Free → alike_at s v w ≡ false
  pub set : (M : Site) → item_site P s ≡ Some M → distinct_of s ≡ Whole → AreSetItems P s M
  pub map : (M : Site) → item_site P s ≡ Some M → distinct_of s ≡ Keys → AreMapItems P s M
