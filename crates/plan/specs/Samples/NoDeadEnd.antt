-- What was begun by the sizes that can follow can be completed (this project's own).
use Rattle.std.specs.Prelude.{◌≡◌, ◌≢◌, ℕ, ◌*◌, ◌≤◌, ◌<◌, ◌↔◌, List, [], ◌∷◌, ◌++◌, length, Bool, true, false, Option, Some, take, drop, filter, Contains, All, AllPairs, ◌&&◌}
use Rattle.jtree.specs.Data.{Data, Items, no_items, item}
use Rattle.jtree.specs.Data as tree
use Rattle.jtree.specs.Nodes.{items_count}
use Rattle.stored.specs.Objects.Fault as fault
use Rattle.stored.specs.Objects.Tests.{is_same}
use Rattle.stored.specs.Objects.StoredByParts.{are_apart}
use Rattle.plan.specs.Pools.Pools.{Pools}
use Rattle.plan.specs.Samples.Part.{IsPart}
use Rattle.plan.specs.Samples.Sites.{Site, item_site, Slot, slots}
use Rattle.plan.specs.Samples.Candidates.{sort_of, HasCount}
use Rattle.plan.specs.Samples.Sizes.{AreFillings, filled_nodes, nothing, state_after, HasRest, HasMore}
use Rattle.plan.specs.Samples.RuleOfParts.{members_in, AreParts, alike_at}
use Rattle.plan.specs.declared.sort.Sort.TheVariants.{Row}

-- ---- objects and maps

-- the slots from a place on, filled with m nodes, complete those before it to a part
pub record RowCompletes (P : Pools) (s : Site) (place : ℕ) (front : List (Option Data)) (m : ℕ) : Type 0 where
  pub back : List (Option Data)
  pub are : AreFillings P (drop place (slots P s)) back
  pub part : IsPart P s (tree.object (members_in (slots P s) (front ++ back)))
  pub nodes_are : filled_nodes back ≡ m

-- ---- lists

abbrev pub items_then : Items → Items → Items
items_then no_items es = es
items_then (item d ds) es = item d (items_then ds es)

-- items of m nodes complete those before them to a part
pub record ListCompletes (P : Pools) (s : Site) (front : Items) (m : ℕ) : Type 0 where
  pub back : Items
  pub part : IsPart P s (tree.list (items_then front back))
  pub nodes_are : items_count back ≡ m

-- ---- the keys of a map list

abbrev pub is_key : Slot → Bool
is_key s = s.key

-- a part for each of the slots
abbrev pub IsTuple : Pools → List Slot → List Data → Type 0
IsTuple P [] [] = Unit {0}
IsTuple P (s ∷ ss) (v ∷ vs) = IsPart P s.site v × IsTuple P ss vs
IsTuple P _ _ = ⊥

-- how many parts each of their sites has
abbrev pub AreCounts : Pools → List Slot → List ℕ → Type 0
AreCounts P [] [] = Unit {0}
AreCounts P (s ∷ ss) (n ∷ ns) = HasCount (IsPart P s.site) n × AreCounts P ss ns
AreCounts P _ _ = ⊥

abbrev pub product : List ℕ → ℕ
product [] = 1
product (n ∷ ns) = n * product ns

-- the tuple begins with these values
abbrev pub begins : List Data → List Data → Bool
begins [] t = true
begins (v ∷ vs) [] = false
begins (v ∷ vs) (w ∷ t) = is_same v w && begins vs t

-- some tuple that begins with the chosen values is not used
abbrev pub HasFree : Pools → List Slot → List (List Data) → List Data → Type 0
HasFree P ss used chosen = (t : List Data) × (IsTuple P ss t × (Contains used (chosen ++ t) → ⊥))

-- ---- all of it: `rows` asks for a row, since a leaf has no slots either, and an empty object would have to be a part of it

pub record NoDeadEnd (P : Pools) (limit : ℕ) (s : Site) : Type 0 where
  pub rows : (front : List (Option Data)) (place m : ℕ) → sort_of s ≡ Row → AreFillings P (take place (slots P s)) front → place ≤ length (slots P s)
      → HasRest P s place (state_after (take place (slots P s)) front nothing) m → RowCompletes P s place front m
  pub lists : (M : Site) (front : Items) (m : ℕ) → item_site P s ≡ Some M → AreParts P M front → are_apart (alike_at s) front ≡ true
      → HasMore P limit s (fault.items_count front) m → ListCompletes P s front m
  -- the first keys of an item, where other items use these tuples: one that no other item has is left exactly where fewer of them begin
  -- with the chosen values than there are tuples of candidates of the later keys
  pub keys : (first later : List Slot) (used : List (List Data)) (chosen : List Data) (counts : List ℕ)
      → filter is_key (slots P s) ≡ first ++ later → IsTuple P first chosen → All (IsTuple P (first ++ later)) used → AllPairs (λ t u. t ≢ u) used
      → AreCounts P later counts → HasFree P later used chosen ↔ (length (filter (begins chosen) used) < product counts)
