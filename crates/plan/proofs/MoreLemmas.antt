-- What can follow in a list, by its items.
use Rattle.std.specs.Prelude.{◌≡◌, ℕ, ◌↔◌, Some}
use Rattle.std.proofs.Common.{refl, inl, inr}
use Rattle.jtree.specs.Data as tree
use Rattle.plan.specs.Pools.Pools.{Pools}
use Rattle.plan.specs.Samples.Sites.{Site, item_site}
use Rattle.plan.specs.Samples.Sizes.{HasMore, bounds_of}
use Rattle.plan.specs.Samples.RuleOfParts.{alike_at}
use Rattle.plan.specs.Internal.PartLaws.{PartLaws}
use Rattle.plan.specs.Internal.Lists.{HasMoreApart}

pub more_parts : PartLaws → (P : Pools) (s M : Site) → item_site P s ≡ Some M → (limit t m : ℕ) → HasMore P limit s t m ↔ HasMoreApart P limit M (alike_at s) (bounds_of P s) t m
more_parts laws P s M is limit t m = (
  (λ h. elim ((laws.list P s M (tree.list h.items) is).0 h.part) [
    | inl null ↦ let no = null.0 in absurd (cc)
    | inr q ↦
        let same : q.items ≡ h.items = let e = q.is in cc in
        record { items = q.items; are = q.are; apart = q.apart; within = q.within; fits = rw same h.fits; many = rw same h.many; nodes_are = rw same h.nodes_are }
  ]),
  λ h. record {
    items = h.items;
    part = (laws.list P s M (tree.list h.items) is).1 (inr (record { items = h.items; is = refl; are = h.are; apart = h.apart; within = h.within }));
    fits = h.fits;
    many = h.many;
    nodes_are = h.nodes_are;
  },
)
