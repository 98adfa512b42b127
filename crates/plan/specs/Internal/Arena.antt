-- What the entries of a plan represent: each the site of its number.
use Rattle.std.specs.Prelude.{◌≡◌, ℕ, zero, suc, ◌+◌, ◌^◌, ◌≤◌, ◌<◌, List, [], ◌∷◌, length, get_or, drop, Bool, Option, Some, None, All, IfSome}
use Rattle.schema.specs.Nodes.Junctors.{most_named}
use Rattle.plan.specs.Pools.Pools.{Pools}
use Rattle.plan.specs.Samples.Sites.{Site, site_at, item_site, Slot, slots}
use Rattle.plan.specs.Samples.Candidates.{sort_of, distinct_of, AreCandidates}
use Rattle.plan.specs.Samples.Presence.{named}
use Rattle.plan.specs.Samples.Sizes.{HasSize, HasMore, ending_of, IsUpTo}
use Rattle.plan.specs.Samples.RuleOfParts.{admits_null}
use Rattle.plan.specs.Internal.Tables.{AreShaped, AreTables}
use Rattle.plan.specs.Samples.Keys.{AreKeySlots, HasTuples}
use Rattle.plan.specs.Internal.Values.{candidates_of}
use Rattle.plan.specs.declared.sort.Sort.TheVariants as sort
use Rattle.plan.specs.declared.values.Values.{Values}
use Rattle.plan.specs.declared.leaf.Leaf.{Leaf}
use Rattle.plan.specs.declared.arena.SlotName.{SlotName}
use Rattle.plan.specs.declared.arena.SlotName.TheVariants.{Field, Pool}
use Rattle.plan.specs.declared.arena.SlotEntry.{SlotEntry}
use Rattle.plan.specs.declared.rows.Choice.{Choice}
use Rattle.plan.specs.declared.arena.RowEntry.{RowEntry}
use Rattle.plan.specs.declared.arena.ListEntry.{ListEntry}
use Rattle.plan.specs.declared.arena.Content.{Content}
use Rattle.plan.specs.declared.arena.Content.TheVariants as content
use Rattle.plan.specs.declared.arena.Entry.{Entry}
use Rattle.plan.specs.declared.arena.Arena.{Arena}

-- a limit that a plan can have, where sets of sizes hold numbers below `bits`
abbrev pub IsLimit : ℕ → ℕ → Type 0
IsLimit bits limit = (1 ≤ limit) × (limit < bits)

-- the values and the limit are the same
abbrev pub IsKept : {Z : Type 0} → Arena Z → Arena Z → Type 0
IsKept old new = (new.values ≡ old.values) × (new.limit ≡ old.limit)

-- the entry of a number
abbrev pub IsEntry : {Z : Type 0} → List (Entry Z) → ℕ → Entry Z → Type 0
IsEntry es i e = e ≡ get_or es i e

abbrev pub name_of : List (List ℕ) → SlotName → List ℕ
name_of names (Field t) = t
name_of names (Pool i) = get_or names i []

pub record IsSlot (names : List (List ℕ)) (sites : List Site) (i : ℕ) (e : SlotEntry) (s : Slot) : Type 0 where
  pub name : name_of names e.name ≡ s.name
  pub below : e.node < i
  pub node : site_at sites e.node ≡ s.site
  pub must : e.must ≡ s.must
  pub key : e.key ≡ s.key
  pub bit : e.bit ≡ s.bit

abbrev pub AreSlots : List (List ℕ) → List Site → ℕ → List SlotEntry → List Slot → Type 0
AreSlots names sites i [] [] = Unit {0}
AreSlots names sites i (e ∷ es) (s ∷ ss) = IsSlot names sites i e s × AreSlots names sites i es ss
AreSlots names sites i _ _ = ⊥

-- the choice has the sizes of the slot's site
pub record IsChosen {Z : Type 0} (es : List (Entry Z)) (c : Choice Z) (x : SlotEntry) : Type 0 where
  pub entry : Entry Z
  pub is : entry ≡ get_or es x.node entry
  pub below : x.node < length es
  pub sizes : c.sizes ≡ entry.sizes
  pub must : c.must ≡ x.must
  pub bit : c.bit ≡ x.bit

abbrev pub AreChosen : {Z : Type 0} → List (Entry Z) → List (Choice Z) → List SlotEntry → Type 0
AreChosen es [] [] = Unit {0}
AreChosen es (c ∷ cs) (x ∷ xs) = IsChosen es c x × AreChosen es cs xs
AreChosen es _ _ = ⊥

-- how many tuples the keys after each slot have
abbrev pub AreLater : Pools → List Slot → List ℕ → Type 0
AreLater P ss ns = (k n : ℕ) → k < length ns → AreKeySlots P (drop (k + 1) ss) → HasTuples P (drop (k + 1) ss) (get_or ns k n)

pub record IsRow {Z : Type 0} (holds : Z → ℕ → Type 0) (limit : ℕ) (P : Pools) (names : List (List ℕ)) (sites : List Site) (i : ℕ) (r : RowEntry Z) : Type 0 where
  pub sort : sort_of (site_at sites i) ≡ sort.Row
  pub are : AreSlots names sites i r.slots.items (slots P (site_at sites i))
  pub later_whole : length r.later.items ≡ length r.slots.items
  pub later : AreLater P (slots P (site_at sites i)) r.later.items
  pub bits : All (λ (e : SlotEntry). IfSome e.bit (λ j. j < most_named)) r.slots.items
  pub whole : length r.tables.items ≡ length r.slots.items + 1
  pub shaped : AreShaped (ending_of P (site_at sites i)).bounds (length r.slots.items) (2 ^ length (named (ending_of P (site_at sites i)).asked)) r.tables.items
  pub tables : AreTables holds limit (ending_of P (site_at sites i)) P (slots P (site_at sites i)) r.tables.items

pub record IsList {Z : Type 0} (holds : Z → ℕ → Type 0) (limit : ℕ) (P : Pools) (sites : List Site) (i : ℕ) (l : ListEntry Z) : Type 0 where
  pub item : item_site P (site_at sites i) ≡ Some (site_at sites l.item)
  pub below : l.item < i
  pub distinct : l.distinct ≡ distinct_of (site_at sites i)
  pub whole : length l.more.items ≡ limit
  pub more : (t : ℕ) (z : Z) → t < length l.more.items → IsUpTo limit (holds (get_or l.more.items t z)) (HasMore P limit (site_at sites i) t)

pub record IsLeaf (limit : ℕ) (P : Pools) (v : Values) (sites : List Site) (i : ℕ) (l : Leaf) : Type 0 where
  pub sort : sort_of (site_at sites i) ≡ sort.Leaf
  pub candidates : AreCandidates P limit (site_at sites i) (candidates_of v l)

abbrev pub HasContent : {Z : Type 0} → (Z → ℕ → Type 0) → ℕ → Pools → Values → List Site → ℕ → Content Z → Type 0
HasContent holds limit P v sites i (content.Leaf l) = IsLeaf limit P v sites i l
HasContent holds limit P v sites i (content.Row r) = IsRow holds limit P v.names.items sites i r
HasContent holds limit P v sites i (content.List l) = IsList holds limit P sites i l

pub record IsRight {Z : Type 0} (holds : Z → ℕ → Type 0) (limit : ℕ) (P : Pools) (v : Values) (sites : List Site) (i : ℕ) (e : Entry Z) : Type 0 where
  pub sizes : IsUpTo limit (holds e.sizes) (HasSize P (site_at sites i))
  pub nullable : e.nullable ≡ admits_null P (site_at sites i)
  pub content : HasContent holds limit P v sites i e.content

-- the entries before the n-th represent the sites of their numbers
abbrev pub AreRightBelow : {Z : Type 0} → (Z → ℕ → Type 0) → ℕ → Pools → Values → List Site → ℕ → List (Entry Z) → Type 0
AreRightBelow {Z} holds limit P v sites n es = (i : ℕ) (e : Entry Z) → i < n → IsRight holds limit P v sites i (get_or es i e)

-- so it is of those of an arena, and of one entry
abbrev pub AreRightIn : {Z : Type 0} → (Z → ℕ → Type 0) → Arena Z → Pools → List Site → ℕ → Type 0
AreRightIn holds a P sites n = AreRightBelow holds a.limit P a.values sites n a.entries.items

abbrev pub IsRightIn : {Z : Type 0} → (Z → ℕ → Type 0) → Arena Z → Pools → List Site → ℕ → Entry Z → Type 0
IsRightIn holds a P sites i e = IsRight holds a.limit P a.values sites i e

-- and so do all
abbrev pub AreRight : {Z : Type 0} → (Z → ℕ → Type 0) → ℕ → Pools → Values → List Site → List (Entry Z) → Type 0
AreRight holds limit P v sites es = AreRightBelow holds limit P v sites (length es) es

-- the slots of a row; none where it is not one
abbrev pub slots_in : {Z : Type 0} → Content Z → List SlotEntry
slots_in (content.Row r) = r.slots.items
slots_in _ = []

-- the node of the items of a list
abbrev pub item_in : {Z : Type 0} → Content Z → Option ℕ
item_in (content.List l) = Some l.item
item_in _ = None

-- the slots, with this one to be filled or not
abbrev pub with_must : ℕ → Bool → List SlotEntry → List SlotEntry
with_must place must [] = []
with_must zero must (s ∷ ss) = record { name = s.name; node = s.node; must = must; key = s.key; bit = s.bit } ∷ ss
with_must (suc place) must (s ∷ ss) = s ∷ with_must place must ss

-- these sites have the numbers from `start` on
abbrev pub AreSitesFrom : List Site → ℕ → List Site → Type 0
AreSitesFrom sites start xs = (j : ℕ) (s : Site) → j < length xs → site_at sites (start + j) ≡ get_or xs j s
