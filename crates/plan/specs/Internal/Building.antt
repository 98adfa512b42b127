-- What is added to a plan for a node: entries for its sites, each after those below it.
use Rattle.std.specs.Prelude.{◌≡◌, ℕ, ◌+◌, ◌^◌, ◌≤◌, ◌<◌, List, [], length, Bool, Option, None, All, ◌||◌, is_some}
use Rattle.jtree.specs.Data.{Data}
use Rattle.schema.specs.Document.Texts.{is_among}
use Rattle.schema.specs.Nodes.Node.{Node, node, Sort, object, map, list, Fields, no_fields, field}
use Rattle.schema.specs.Nodes.Items.{HasSoundItems}
use Rattle.schema.specs.Nodes.Junctors.{HasSoundJunctors}
use Rattle.plan.specs.Pools.Pools.{Pools, fixed_at, is_present}
use Rattle.explain.specs.Paths.FieldPath as step
use Rattle.plan.specs.Samples.Presence.{bit_of}
use Rattle.plan.specs.Samples.RuleOfParts.{takes_null}
use Rattle.plan.specs.Samples.Sites.{Site, below, sites_from, sites_of_fields, field_slots}
use Rattle.plan.specs.Internal.Tables.{IsClosed}
use Rattle.plan.specs.Internal.Values.{AreValues}
use Rattle.plan.specs.Internal.Arena.{AreSitesFrom, AreRight, AreSlots, IsKept, name_of}
use Rattle.plan.specs.declared.values.Values.{Values}
use Rattle.plan.specs.declared.arena.Entry.{Entry}
use Rattle.plan.specs.declared.arena.Arena.{Arena}
use Rattle.plan.specs.declared.arena.SlotEntry.{SlotEntry}

-- the items of each list can be distinguished where that is required, and the junctors of each object name few fields
abbrev mutual
  pub IsSound : Node → Type 0
  IsSound (node nullable description sort) = HasSoundItems (node nullable description sort) × HasSoundJunctors (node nullable description sort) × IsSortSound sort

  pub IsSortSound : Sort → Type 0
  IsSortSound (object fs preserves type bounds cs) = AreFieldsSound fs
  IsSortSound (map N type bounds) = IsSound N
  IsSortSound (list N type keys bounds) = IsSound N
  IsSortSound _ = Unit {0}

  pub AreFieldsSound : Fields → Type 0
  AreFieldsSound no_fields = Unit {0}
  AreFieldsSound (field k N required default fs) = IsSound N × AreFieldsSound fs

-- a node and all below it; the node is the last
pub record IsBuilt {Z : Type 0} (holds : Z → ℕ → Type 0) (limit : ℕ) (P : Pools) (v : Values) (old new : List (Entry Z)) (fixed : Option (List Data)) (path : List ℕ) (N : Node) (keys : List (List ℕ)) (n : ℕ) : Type 0 where
  pub count : length new ≡ length old + length (sites_from P fixed path N keys)
  pub last : n + 1 ≡ length new
  pub right : (sites : List Site) → AreValues P v → IsSound N → AreSitesFrom sites (length old) (sites_from P fixed path N keys)
      → AreRight holds limit P v sites old → AreRight holds limit P v sites new

-- so it is of what is added to an arena, of which nothing else changes
pub record Builds {Z : Type 0} (holds : Z → ℕ → Type 0) (old new : Arena Z) (P : Pools) (fixed : Option (List Data)) (path : List ℕ) (N : Node) (keys : List (List ℕ)) (n : ℕ) : Type 0 where
  pub kept : IsKept old new
  pub built : IsBuilt holds old.limit P old.values old.entries.items new.entries.items fixed path N keys n

-- of a leaf, which takes null or does not
abbrev pub BuildsLeaf : {Z : Type 0} → (Z → ℕ → Type 0) → Arena Z → Arena Z → Pools → Option (List Data) → List ℕ → Node → Bool → ℕ → Type 0
BuildsLeaf holds old new P fixed path N nullable n = (keys : List (List ℕ)) → takes_null P path N ≡ nullable → Builds holds old new P fixed path N keys n

-- of a node of this sort, whose values are not fixed, and which takes null or does not
abbrev pub BuildsSort : {Z : Type 0} → (Z → ℕ → Type 0) → Arena Z → Arena Z → Pools → List ℕ → Sort → List (List ℕ) → Bool → ℕ → Type 0
BuildsSort holds old new P path sort keys nullable n =
    (m : Bool) (d : Option (List ℕ)) → takes_null P path (node m d sort) ≡ nullable → Builds holds old new P None path (node m d sort) keys n

-- the slot of a field
pub record IsFieldSlot (P : Pools) (path : List ℕ) (keys named : List (List ℕ)) (name : List ℕ) (required : Bool) (default : Option Data) (s : SlotEntry) : Type 0 where
  pub name_is : (names : List (List ℕ)) → name_of names s.name ≡ name
  pub must : s.must ≡ ((required || is_some default) || is_present (below path (step.field name)) P)
  pub key : s.key ≡ is_among name keys
  pub bit : s.bit ≡ bit_of name named
  pub closed : IsClosed (2 ^ length named) s.bit

-- a field: its node and all below it, and its slot
pub record BuildsField {Z : Type 0} (holds : Z → ℕ → Type 0) (old new : Arena Z) (P : Pools) (path : List ℕ) (keys named : List (List ℕ)) (name : List ℕ) (N : Node) (required : Bool) (default : Option Data) (s : SlotEntry) : Type 0 where
  pub below_is : Builds holds old new P (fixed_at (below path (step.field name)) P) (below path (step.field name)) N [] s.node
  pub slot : IsFieldSlot P path keys named name required default s

-- fields and all below them
pub record AreBuilt {Z : Type 0} (holds : Z → ℕ → Type 0) (limit : ℕ) (P : Pools) (v : Values) (old new : List (Entry Z)) (path : List ℕ) (fs : Fields) (keys named : List (List ℕ)) (slots : List SlotEntry) : Type 0 where
  pub count : length new ≡ length old + length (sites_of_fields P path fs)
  pub below : All (λ (s : SlotEntry). s.node < length new) slots
  pub bits : All (λ (s : SlotEntry). IsClosed (2 ^ length named) s.bit) slots
  pub right : (sites : List Site) → AreValues P v → AreFieldsSound fs → AreSitesFrom sites (length old) (sites_of_fields P path fs)
      → AreRight holds limit P v sites old → AreRight holds limit P v sites new
  pub slots_are : (names : List (List ℕ)) (sites : List Site) (i : ℕ) → AreSitesFrom sites (length old) (sites_of_fields P path fs) → length new ≤ i → AreSlots names sites i slots (field_slots P path keys named fs)

-- so it is of what is added to an arena
pub record BuildsFields {Z : Type 0} (holds : Z → ℕ → Type 0) (old new : Arena Z) (P : Pools) (path : List ℕ) (fs : Fields) (keys named : List (List ℕ)) (slots : List SlotEntry) : Type 0 where
  pub kept : IsKept old new
  pub built : AreBuilt holds old.limit P old.values old.entries.items new.entries.items path fs keys named slots
