-- What is made anew along a way: the entries of the nodes on it.
use Rattle.std.specs.Prelude.{◌≡◌, ◌++◌, ◌+◌, ◌<◌, ◌≤◌, ℕ, zero, suc, List, length, get_or, Bool, Option, Some, All, IfSome}
use Rattle.jtree.specs.Data.{Data}
use Rattle.schema.specs.Nodes.Node.{Node, IsNode, Validations, Fields, no_fields, field}
use Rattle.schema.specs.Nodes.ByPlace.{node_at}
use Rattle.schema.specs.Nodes.View.{node_of}
use Rattle.schema.specs.declared.node.Bounds.{Bounds}
use Rattle.explain.specs.Paths.FieldPath.{FieldPath, place_of}
use Rattle.explain.specs.Paths.PathText.{path_text}
use Rattle.plan.specs.Pools.Pools.{Pools}
use Rattle.plan.specs.Samples.Sites.{Site, site_at, slots}
use Rattle.plan.specs.Samples.Candidates.{sort_of}
use Rattle.plan.specs.Samples.Sizes.{ending_of}
use Rattle.plan.specs.Samples.RuleOfParts.{admits_null}
use Rattle.plan.specs.Internal.Arena.{IsRight, AreRightBelow, AreRight, AreSlots, slots_in, with_must}
use Rattle.plan.specs.Internal.Tables.{AreMet}
use Rattle.plan.specs.Internal.Values.{AreValues}
use Rattle.plan.specs.Internal.Way.{IsWay}
use Rattle.plan.specs.Samples.Presence.{named}
use Rattle.schema.specs.Nodes.Junctors.{most_named}
use Rattle.plan.specs.declared.values.Values.{Values}
use Rattle.plan.specs.declared.arena.SlotEntry.{SlotEntry}
use Rattle.plan.specs.declared.arena.Entry.{Entry}
use Rattle.plan.specs.declared.arena.Arena.{Arena}
use Rattle.plan.specs.declared.renewing.Place.{Place}
use Rattle.plan.specs.declared.renewing.RowRules.{RowRules}
use Rattle.plan.specs.declared.sort.Sort.TheVariants.{Row}

-- the node of this number is on the way, with these steps left
pub record IsOnWay (p : FieldPath) (sites : List Site) (n : ℕ) (path : List ℕ) (N : Node) (steps : FieldPath) : Type 0 where
  pub front : FieldPath
  pub whole : front ++ steps ≡ p
  pub text : path ≡ path_text front
  pub inside : n < length sites
  pub node : (site_at sites n).node ≡ N
  pub path_is : (site_at sites n).path ≡ path
  pub end : Node
  pub leads : node_at N (place_of steps) ≡ Some end

-- all entries up to the n-th are right over the changed pools, and no later one has changed
pub record AreRenewedTo {Z : Type 0} (holds : Z → ℕ → Type 0) (limit : ℕ) (Q : Pools) (v : Values) (others : List Site) (n : ℕ) (old new : List (Entry Z)) : Type 0 where
  pub right : AreRightBelow holds limit Q v others (n + 1) new
  pub after : (i : ℕ) (e : Entry Z) → n < i → get_or new i e ≡ get_or old i e

-- and so it is wherever the node is on a way with these steps left
pub record IsRenewed {Z : Type 0} (holds : Z → ℕ → Type 0) (limit : ℕ) (Q : Pools) (v : Values) (path : List ℕ) (N : Node) (n : ℕ) (steps : FieldPath) (old new : List (Entry Z)) : Type 0 where
  pub count : length new ≡ length old
  pub right : (root : Node) (P : Pools) (p : FieldPath) (sites others : List Site) → IsWay root P Q p sites others → IsOnWay p sites n path N steps → length old ≡ length sites → AreValues Q v
      → AreRight holds limit P v sites old → AreRenewedTo holds limit Q v others n old new

-- so it is of the entries of an arena, from a place on
abbrev pub Renews : {Z : Type 0} → (Z → ℕ → Type 0) → Arena Z → Arena Z → Pools → Place → FieldPath → Type 0
Renews holds old new Q place steps = IsRenewed holds old.limit Q old.values place.path.now (node_of place.node.now) place.number steps old.entries.items new.entries.items

-- the entry of a row is made anew, with the slot at this place to be filled or not
pub record IsRowRemade {Z : Type 0} (holds : Z → ℕ → Type 0) (limit : ℕ) (v : Values) (n : ℕ) (bounds : Bounds) (named : List (List ℕ)) (ends : List Bool) (place : ℕ) (must nullable : Bool) (old new : List (Entry Z)) : Type 0 where
  pub count : length new ≡ length old
  pub others : (i : ℕ) (e : Entry Z) → (i ≡ n → ⊥) → get_or new i e ≡ get_or old i e
  pub right : (Q : Pools) (sites : List Site) (cs : Validations) (e f : Entry Z) → n < length old → AreRightBelow holds limit Q v sites n old → IsNode (site_at sites n).node → sort_of (site_at sites n) ≡ Row
      → ending_of Q (site_at sites n) ≡ record { bounds = bounds; asked = cs } → AreMet cs ends → admits_null Q (site_at sites n) ≡ nullable
      → All (λ (s : SlotEntry). s.node < n) (slots_in (get_or old n e).content) → All (λ (s : SlotEntry). IfSome s.bit (λ j. j < length named)) (slots_in (get_or old n e).content)
      → AreSlots v.names.items sites n (with_must place must (slots_in (get_or old n e).content)) (slots Q (site_at sites n)) → IsRight holds limit Q v sites n (get_or new n f)

-- so it is of the entry of a row in an arena
abbrev pub Remakes : {Z : Type 0} → (Z → ℕ → Type 0) → Arena Z → Arena Z → ℕ → RowRules → Bool → Type 0
Remakes holds old new n r nullable = IsRowRemade holds old.limit old.values n r.bounds r.named.now r.ends.now r.place r.must nullable old.entries.items new.entries.items

-- the field of this name is at this place
abbrev pub IsFieldAt : ℕ → List ℕ → Node → Bool → Option Data → Fields → Type 0
IsFieldAt i k N required default no_fields = ⊥
IsFieldAt zero k N required default (field l M r d fs) = (l ≡ k) × (M ≡ N) × (r ≡ required) × (d ≡ default)
IsFieldAt (suc i) k N required default (field l M r d fs) = IsFieldAt i k N required default fs

-- the named fields of the junctors, and whether these hold for each set of them
pub record AreEndsOf (cs : Validations) (names : List (List ℕ)) (ends : List Bool) : Type 0 where
  pub names_are : length (named cs) ≤ most_named → names ≡ named cs
  pub met : names ≡ named cs → AreMet cs ends
