-- What the tables of a plan hold. A set represents the numbers that it holds.
use Rattle.std.specs.Prelude.{◌≡◌, ℕ, suc, ◌+◌, ◌-◌, ◌^◌, ◌<◌, List, [], ◌∷◌, length, get_or, drop, min, max, Bool, Option, option_map, unwrap_or, IfSome}
use Rattle.std.specs.declared.vec.Vec.{Vec}
use Rattle.std.specs.declared.alloc.Global.{Global}
use Rattle.schema.specs.Nodes.Node.{Validations}
use Rattle.schema.specs.Nodes.Junctors.{most_named}
use Rattle.schema.specs.declared.node.Bounds.{Bounds}
use Rattle.plan.specs.Pools.Pools.{Pools}
use Rattle.plan.specs.Samples.Presence.{named, bit_of, is_set, with_bit, meets_seen}
use Rattle.plan.specs.Samples.Sites.{Slot}
use Rattle.plan.specs.Samples.Sizes.{HasSize, Ending, CanFill, IsUpTo}
use Rattle.plan.specs.declared.rows.Choice.{Choice}

-- the place is one of few, and its bit can be set in each number below this one, which stays below it
abbrev pub IsClosed : ℕ → Option ℕ → Type 0
IsClosed kinds bit = IfSome bit (λ j. j < most_named) × ((seen : ℕ) → seen < kinds → with_bit bit seen < kinds)

-- the test whether a name is seen: its bit is set
abbrev pub is_seen : List (List ℕ) → ℕ → List ℕ → Bool
is_seen names seen k = is_set (bit_of k names) seen

-- for each set of the named fields: whether the junctors hold where these are there
pub record AreMet (cs : Validations) (ends : List Bool) : Type 0 where
  pub whole : length ends ≡ 2 ^ length (named cs)
  pub each : (seen : ℕ) (b : Bool) → seen < length ends → get_or ends seen b ≡ meets_seen cs seen

-- the choices have the sizes of the slots' sites, say which of them have to be filled, and which named field each is
abbrev pub AreChoices : {Z : Type 0} → (Z → ℕ → Type 0) → ℕ → Pools → List (Choice Z) → List Slot → Type 0
AreChoices holds limit P [] [] = Unit {0}
AreChoices holds limit P (c ∷ cs) (s ∷ ss) = IsUpTo limit (holds c.sizes) (HasSize P s.site) × (c.must ≡ s.must) × (c.bit ≡ s.bit) × AreChoices holds limit P cs ss
AreChoices holds limit P _ _ = ⊥

-- the number of members from which on the bounds treat all numbers alike: the least number, or one past the greatest
abbrev pub cap : Bounds → ℕ
cap b = max (unwrap_or b.least 0) (unwrap_or (option_map suc b.most) 0)

-- how many columns a table has where there may be as many as `before` members before its place: one for each number of members up to
-- the cap, whose column stands for all greater numbers
abbrev pub columns : Bounds → ℕ → ℕ
columns b before = min before (cap b) + 1

-- where these named fields were seen, at the number of members before of each column: the sizes that the slots can still take
abbrev pub IsLevel : {Z : Type 0} → (Z → ℕ → Type 0) → ℕ → Ending → Pools → List Slot → ℕ → List Z → Type 0
IsLevel {Z} holds limit e P ss seen level = (t : ℕ) (z : Z) → t < length level → IsUpTo limit (holds (get_or level t z)) (CanFill P ss e (record { count = t; seen = seen }))

-- the same for each set of the named fields
abbrev pub IsTable : {Z : Type 0} → (Z → ℕ → Type 0) → ℕ → Ending → Pools → List Slot → List (Vec Z Global) → Type 0
IsTable {Z} holds limit e P ss table = (seen : ℕ) (d : Vec Z Global) → seen < length table → IsLevel holds limit e P ss seen (get_or table seen d).items

-- from the level after a slot, and that where it is filled, the level from the slot on, by what the choice says of it
abbrev pub MakesLevel : {Z : Type 0} → (Z → ℕ → Type 0) → ℕ → Bounds → Choice Z → List Z → List Z → List Z → Type 0
MakesLevel holds limit b choice without with level =
    (P : Pools) (s : Slot) (ss : List Slot) (e : Ending) (seen : ℕ) → e.bounds ≡ b → IsUpTo limit (holds choice.sizes) (HasSize P s.site) → choice.must ≡ s.must
    → IsLevel holds limit e P ss seen without → IsLevel holds limit e P ss (with_bit s.bit seen) with → IsLevel holds limit e P (s ∷ ss) seen level

-- from the table after a slot, that from the slot on
abbrev pub MakesTable : {Z : Type 0} → (Z → ℕ → Type 0) → ℕ → Bounds → Choice Z → List (Vec Z Global) → List (Vec Z Global) → Type 0
MakesTable holds limit b choice after table =
    (P : Pools) (s : Slot) (ss : List Slot) (e : Ending) → e.bounds ≡ b → IsUpTo limit (holds choice.sizes) (HasSize P s.site) → choice.must ≡ s.must → choice.bit ≡ s.bit
    → IsTable holds limit e P ss after → IsTable holds limit e P (s ∷ ss) table

-- a table has a level for each of `kinds` sets of the named fields, each of `width` columns
pub record HasShape {Z : Type 0} (kinds width : ℕ) (table : List (Vec Z Global)) : Type 0 where
  pub whole : length table ≡ kinds
  pub wide : (seen : ℕ) (d : Vec Z Global) → seen < length table → length (get_or table seen d).items ≡ width

-- the tables of `count` slots, that of the last place first
abbrev pub AreShaped : {Z : Type 0} → Bounds → ℕ → ℕ → List (Vec (Vec Z Global) Global) → Type 0
AreShaped {Z} b count kinds tables = (k : ℕ) (d : Vec (Vec Z Global) Global) → k < length tables → HasShape kinds (columns b (count - k)) (get_or tables k d).items

-- each of them has the sizes of the slots from its place on
abbrev pub AreTables : {Z : Type 0} → (Z → ℕ → Type 0) → ℕ → Ending → Pools → List Slot → List (Vec (Vec Z Global) Global) → Type 0
AreTables {Z} holds limit e P ss tables = (k : ℕ) (d : Vec (Vec Z Global) Global) → k < length tables → IsTable holds limit e P (drop (length ss - k) ss) (get_or tables k d).items
