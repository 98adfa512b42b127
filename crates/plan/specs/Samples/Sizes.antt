-- The sizes of parts, and of what can still follow in an object, a map or a list that was begun: each said by existence (this
-- project's own). A size is a number of nodes. The node of the object, the map or the list itself counts in the sizes of the site alone.
use Rattle.std.specs.Prelude.{◌≡◌, ℕ, zero, suc, ◌+◌, ◌≤◌, ◌↔◌, List, [], ◌∷◌, Bool, true, false, Option, Some, None, drop, max, unwrap_or}
use Rattle.jtree.specs.Data.{Data, Items, no_items, item}
use Rattle.jtree.specs.Data as tree
use Rattle.jtree.specs.Nodes.{node_count, items_count}
use Rattle.schema.specs.Nodes.Node.{Node, node, object, map, list, Validations}
use Rattle.schema.specs.declared.node.Bounds.{Bounds}
use Rattle.stored.specs.Objects.Fault as fault
use Rattle.stored.specs.Objects.StoredByParts.{IsWithin}
use Rattle.explain.specs.Paths.FieldPath as step
use Rattle.plan.specs.Pools.Pools.{Pools, is_present}
use Rattle.plan.specs.Samples.Part.{IsPart}
use Rattle.plan.specs.Samples.Presence.{with_bit, meets_seen, no_validations}
use Rattle.plan.specs.Samples.Sites.{Site, below, Slot, slots}

-- the set A holds exactly the numbers up to the limit for which P holds
abbrev pub IsUpTo : ℕ → (ℕ → Type 0) → (ℕ → Type 0) → Type 0
IsUpTo limit A P = (n : ℕ) → A n ↔ ((n ≤ limit) × P n)

-- some part of the site has n nodes
pub record HasSize (P : Pools) (s : Site) (n : ℕ) : Type 0 where
  pub part : Data
  pub is : IsPart P s part
  pub nodes_are : node_count part ≡ n

-- ---- objects and maps

-- the content of each slot: nothing, where the slot may stay empty, or a part of the slot's site
abbrev pub AreFillings : Pools → List Slot → List (Option Data) → Type 0
AreFillings P [] [] = Unit {0}
AreFillings P (s ∷ ss) (None ∷ gs) = (s.must ≡ false) × AreFillings P ss gs
AreFillings P (s ∷ ss) (Some v ∷ gs) = IsPart P s.site v × AreFillings P ss gs
AreFillings P _ _ = ⊥

-- the number of nodes in the slots
abbrev pub filled_nodes : List (Option Data) → ℕ
filled_nodes [] = 0
filled_nodes (None ∷ gs) = filled_nodes gs
filled_nodes (Some v ∷ gs) = node_count v + filled_nodes gs

-- the state before a place: how many slots are filled, and which named fields are among them
pub record Before : Type 0 where
  pub count : ℕ
  pub seen : ℕ

abbrev pub nothing : Before
nothing = record { count = 0; seen = 0 }

-- one slot more is filled
abbrev pub filled : Option ℕ → Before → Before
filled bit x = record { count = x.count + 1; seen = with_bit bit x.seen }

-- the state after the slots
abbrev pub state_after : List Slot → List (Option Data) → Before → Before
state_after (s ∷ ss) (None ∷ gs) x = state_after ss gs x
state_after (s ∷ ss) (Some v ∷ gs) x = state_after ss gs (filled s.bit x)
state_after _ _ x = x

-- at least one, where that is asked
abbrev pub raised : Bool → Bounds → Bounds
raised false b = b
raised true b = record { least = Some (max (unwrap_or b.least 0) 1); most = b.most }

-- the bounds on the number of members or items, of which there is one where the pools ask for it
abbrev pub bounds_at : Pools → List ℕ → Node → Bounds
bounds_at P path (node nullable description (object fs preserves type bounds cs)) = bounds
bounds_at P path (node nullable description (map N type bounds)) = raised (is_present (below path step.value) P) bounds
bounds_at P path (node nullable description (list N type keys bounds)) = raised (is_present (below path step.item) P) bounds
bounds_at P path _ = record { least = None; most = None }

abbrev pub bounds_of : Pools → Site → Bounds
bounds_of P s = bounds_at P s.path s.node

-- the conditions on a row where it ends: bounds on the number of its members, and its junctors
pub record Ending : Type 0 where
  pub bounds : Bounds
  pub asked : Validations

abbrev pub ending_at : Pools → List ℕ → Node → Ending
ending_at P path (node nullable description (object fs preserves type bounds cs)) = record { bounds = bounds; asked = cs }
ending_at P path N = record { bounds = bounds_at P path N; asked = no_validations }

abbrev pub ending_of : Pools → Site → Ending
ending_of P s = ending_at P s.path s.node

-- a row may end in this state
abbrev pub MayEnd : Ending → Before → Type 0
MayEnd e x = IsWithin e.bounds x.count × (meets_seen e.asked x.seen ≡ true)

-- the slots can be filled with m nodes in all, so that the row, with this state before them, may end after them
pub record CanFill (P : Pools) (ss : List Slot) (e : Ending) (x : Before) (m : ℕ) : Type 0 where
  pub fillings : List (Option Data)
  pub are : AreFillings P ss fillings
  pub ends : MayEnd e (state_after ss fillings x)
  pub nodes_are : filled_nodes fillings ≡ m

-- The slots from a place on can be filled with m nodes so that the row may end. With three optional booleans a, b and c and
-- `minProperties` 2, m is 2 or 3 at place 0; at place 1 it is 2 without a, and 1 or 2 with it; at place 2 there is none without both. With
-- `oneOf` `[{"required":["a"]},{"required":["b"]}]` in its place, m is 0 or 1 at place 2 after one of a and b; after both or neither none.
abbrev pub HasRest : Pools → Site → ℕ → Before → ℕ → Type 0
HasRest P s place x m = CanFill P (drop place (slots P s)) (ending_of P s) x m

-- ---- lists

-- the items from an index on
abbrev pub items_from : ℕ → Items → Items
items_from zero ds = ds
items_from (suc i) no_items = no_items
items_from (suc i) (item d ds) = items_from i ds

-- Some list that is a part of the site, with at most as many nodes as the limit, has at least t items, and those after the first
-- t have m nodes. In a map list whose key has two values beside an optional integer with one, at limit 8, items have 2 or 3 nodes and
-- no list has three items; so m is 0 or 2 to 6 for t = 0; 0, 2 or 3 for t = 1; and 0 for t = 2.
pub record HasMore (P : Pools) (limit : ℕ) (s : Site) (t m : ℕ) : Type 0 where
  pub items : Items
  pub part : IsPart P s (tree.list items)
  pub fits : node_count (tree.list items) ≤ limit
  pub many : t ≤ fault.items_count items
  pub nodes_are : items_count (items_from t items) ≡ m
