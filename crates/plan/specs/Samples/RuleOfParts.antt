-- What the parts of a site are, by the content of the slots of a row and of the items of a list (this project's own).
use Rattle.std.specs.Prelude.{◌≡◌, ◌≤◌, ◌⊎◌, ◌↔◌, ℕ, List, ◌∷◌, length, Bool, true, false, Option, Some, None, not, ◌&&◌, Contains}
use Rattle.jtree.specs.Data.{Data, Items, no_items, item, Members, no_members, member}
use Rattle.jtree.specs.Data as tree
use Rattle.jtree.specs.Nodes.{node_count}
use Rattle.schema.specs.Nodes.Node.{Node, node, list}
use Rattle.stored.specs.Objects.Fault as fault
use Rattle.stored.specs.Objects.Fault.{are_alike}
use Rattle.stored.specs.Objects.Becomes.{is_nullable}
use Rattle.stored.specs.Objects.StoredByParts.{are_apart}
use Rattle.plan.specs.Pools.Pools.{Pools}
use Rattle.plan.specs.Samples.Over.{asks_below}
use Rattle.plan.specs.Samples.Part.{IsPart}
use Rattle.plan.specs.Samples.Sites.{Site, where_fixed, item_site, Slot, slots}
use Rattle.plan.specs.Samples.Candidates.{sort_of, AreCandidates}
use Rattle.plan.specs.Samples.Sizes.{AreFillings, nothing, state_after, HasRest, HasMore}
use Rattle.plan.specs.declared.sort.Sort.TheVariants.{Leaf, Row, List as ListSort}

-- the members in the slots
abbrev pub members_in : List Slot → List (Option Data) → Members
members_in (s ∷ ss) (None ∷ gs) = members_in ss gs
members_in (s ∷ ss) (Some v ∷ gs) = member s.name v (members_in ss gs)
members_in _ _ = no_members

-- each item is a part of the site
abbrev pub AreParts : Pools → Site → Items → Type 0
AreParts P s no_items = Unit {0}
AreParts P s (item d ds) = IsPart P s d × AreParts P s ds

-- two items that may not be in one list: in a set equal ones, in a map list those that agree on all keys
abbrev pub alike_by : Node → Data → Data → Bool
alike_by (node nullable description (list N type keys bounds)) v w = are_alike type keys v w
alike_by N v w = false

abbrev pub alike_at : Site → Data → Data → Bool
alike_at s = where_fixed s.fixed (λ v w. false) (alike_by s.node)

-- null is accepted (`nullable`), and the pools ask for nothing below it
abbrev pub takes_null : Pools → List ℕ → Node → Bool
takes_null P path N = is_nullable N && not (asks_below P path N)

abbrev pub admits_null : Pools → Site → Bool
admits_null P s = takes_null P s.path s.node

abbrev pub IsNullPart : Pools → Site → Data → Type 0
IsNullPart P s v = (v ≡ tree.null) × (admits_null P s ≡ true)

-- an object whose slots hold parts, and which may end after them
pub record IsRowPart (P : Pools) (s : Site) (v : Data) : Type 0 where
  pub fillings : List (Option Data)
  pub is : v ≡ tree.object (members_in (slots P s) fillings)
  pub are : AreFillings P (slots P s) fillings
  pub ends : HasRest P s (length (slots P s)) (state_after (slots P s) fillings nothing) 0

-- a list of parts, no two alike, that may end where it does
pub record IsListPart (P : Pools) (limit : ℕ) (s M : Site) (v : Data) : Type 0 where
  pub items : Items
  pub is : v ≡ tree.list items
  pub are : AreParts P M items
  pub apart : are_apart (alike_at s) items ≡ true
  pub ends : HasMore P limit s (fault.items_count items) 0

-- A value is a part exactly: at a leaf, where it is a candidate; at a row, where it is null and that is accepted, or where its
-- slots hold parts; at a list, whose items have one site, where it is null and that is accepted, or a list of parts. At a leaf and a
-- list it has at most as many nodes as the limit.
pub record RuleOfParts (P : Pools) (limit : ℕ) (s : Site) : Type 0 where
  pub leaf : (v : Data) → sort_of s ≡ Leaf → node_count v ≤ limit → IsPart P s v ↔ ((vs : List Data) × (AreCandidates P limit s vs × Contains vs v))
  pub row : (v : Data) → sort_of s ≡ Row → IsPart P s v ↔ (IsNullPart P s v ⊎ IsRowPart P s v)
  pub items : sort_of s ≡ ListSort → (M : Site) × (item_site P s ≡ Some M)
  pub list : (M : Site) (v : Data) → item_site P s ≡ Some M → node_count v ≤ limit → IsPart P s v ↔ (IsNullPart P s v ⊎ IsListPart P limit s M v)
