-- Sites whose values are fixed by the pools, and those whose values are not.
use Rattle.std.specs.Prelude.{◌≡◌, List, Option, Some, None}
use Rattle.std.proofs.Common.{refl}
use Rattle.jtree.specs.Data.{Data}
use Rattle.plan.specs.Pools.Pools.{Pools}
use Rattle.plan.specs.Samples.Sites.{Site, where_fixed, item_site, item_site_at}
use Rattle.plan.specs.declared.sort.Sort.{Sort}
use Rattle.plan.specs.declared.sort.Sort.TheVariants.{Leaf}

-- a leaf stays a leaf
pub leaf_any : (fixed : Option (List Data)) (sort : Sort) → sort ≡ Leaf → where_fixed fixed Leaf sort ≡ Leaf
leaf_any (Some ds) sort is = refl
leaf_any None sort is = is

some_unfixed : (fixed : Option (List Data)) (o : Option Site) (M : Site) → where_fixed fixed None o ≡ Some M → (fixed ≡ None) × (o ≡ Some M)
some_unfixed (Some ds) o M is = absurd (cc)
some_unfixed None o M is = (refl, is)

-- a list with a site of its items is not fixed
pub item_unfixed : (P : Pools) (s M : Site) → item_site P s ≡ Some M → (s.fixed ≡ None) × (item_site_at P s.path s.node ≡ Some M)
item_unfixed P s M is = some_unfixed s.fixed (item_site_at P s.path s.node) M is
