-- The slot, or the candidate, at a place.
use Rattle.std.specs.Prelude.{◌≡◌, ℕ, List, Option, Some, slice_get}
use Rattle.jtree.specs.Data.{Data}
use Rattle.plan.specs.Pools.Pools.{Pools}
use Rattle.plan.specs.Samples.Sites.{Site, site_at}
use Rattle.plan.specs.Samples.Sites as sites
use Rattle.plan.specs.Samples.Candidates.{AreCandidates}
use Rattle.plan.specs.declared.plan.Slot.{Slot}

-- the slot at a place
pub record IsSlotAt (all : List Site) (ss : List sites.Slot) (place : ℕ) (t : Slot) : Type 0 where
  pub slot : sites.Slot
  pub is : slice_get ss place ≡ Some slot
  pub name : t.name.now ≡ slot.name
  pub node : site_at all t.node ≡ slot.site
  pub must : t.must ≡ slot.must
  pub key : t.key ≡ slot.key
  pub bit : t.bit ≡ slot.bit

-- the candidate at a place, where there is one
pub record IsCandidateAt (P : Pools) (limit : ℕ) (s : Site) (place : ℕ) (v : Option Data) : Type 0 where
  pub candidates : List Data
  pub are : AreCandidates P limit s candidates
  pub is : v ≡ slice_get candidates place
