-- The parts of a site, one level at a time: what its slots or items hold, and that it may end there.
use Rattle.std.specs.Prelude.{◌≡◌, ◌⊎◌, ◌↔◌, List, true, Option, Some, None}
use Rattle.jtree.specs.Data.{Data, Items, IsTree}
use Rattle.jtree.specs.Data as tree
use Rattle.schema.specs.Nodes.Node.{IsNode}
use Rattle.stored.specs.Objects.Fault as fault
use Rattle.stored.specs.Objects.Becomes.{IsStored}
use Rattle.stored.specs.Objects.StoredByParts.{are_apart, IsWithin}
use Rattle.plan.specs.Pools.Pools.{Pools}
use Rattle.plan.specs.Samples.Leasts.{leasts}
use Rattle.plan.specs.Samples.Over.{is_in, is_over_here}
use Rattle.plan.specs.Samples.Part.{IsPart}
use Rattle.plan.specs.Samples.Sites.{Site, item_site, slots}
use Rattle.plan.specs.Samples.Candidates.{sort_of}
use Rattle.plan.specs.Samples.Sizes.{AreFillings, bounds_of, nothing, state_after, ending_of, MayEnd}
use Rattle.plan.specs.Samples.RuleOfParts.{members_in, AreParts, alike_at, IsNullPart}
use Rattle.plan.specs.declared.sort.Sort.TheVariants.{Leaf, Row}

pub record IsObjectPart (P : Pools) (s : Site) (v : Data) : Type 0 where
  pub fillings : List (Option Data)
  pub is : v ≡ tree.object (members_in (slots P s) fillings)
  pub are : AreFillings P (slots P s) fillings
  pub ends : MayEnd (ending_of P s) (state_after (slots P s) fillings nothing)

pub record IsItemsPart (P : Pools) (s M : Site) (v : Data) : Type 0 where
  pub items : Items
  pub is : v ≡ tree.list items
  pub are : AreParts P M items
  pub apart : are_apart (alike_at s) items ≡ true
  pub within : IsWithin (bounds_of P s) (fault.items_count items)

pub record PartLaws : Type 0 where
  pub fixed : (P : Pools) (s : Site) (v : Data) (ds : List Data) → s.fixed ≡ Some ds → IsPart P s v ↔ (IsTree v × IsStored s.node v × (is_in v (leasts ds) ≡ true))
  pub leaf : (P : Pools) (s : Site) (v : Data) → s.fixed ≡ None → sort_of s ≡ Leaf → IsPart P s v ↔ (IsTree v × IsStored s.node v × (is_over_here P s.path s.node v ≡ true))
  pub row : (P : Pools) (s : Site) (v : Data) → IsNode s.node → sort_of s ≡ Row → IsPart P s v ↔ (IsNullPart P s v ⊎ IsObjectPart P s v)
  pub list : (P : Pools) (s M : Site) (v : Data) → item_site P s ≡ Some M → IsPart P s v ↔ (IsNullPart P s v ⊎ IsItemsPart P s M v)
