use Rattle.std.proofs.Common.{refl, subst, arith}
use Rattle.explain.specs.Fields.Declared.{AreFields}
use Rattle.cover.proofs.CoveringLemmas.{none_covered}
use Rattle.cover.proofs.covering.Covering.new.Goals as goal

pub invariant_of-result : goal.invariant_of-result
invariant_of-result g c =
    let none = none_covered c.args.values c.args.plan c.in_ok-listing.listing (subst (λ r. AreFields r c.in_ok-listing.listing) c.schema.ensures c.in_ok-listing.ensures) in
    record {
      paths = c.requires.paths;
      cover = rw (c.new-3.ensures.items, c.new-4.ensures.items) none;
      known = rw (c.new-2.ensures.items) (λ i d lt. absurd (omega (arith, lt)));
    }

pub returns : goal.returns
returns g c =
    let none = none_covered c.args.values c.args.plan c.in_ok-listing.listing (subst (λ r. AreFields r c.in_ok-listing.listing) c.schema.ensures c.in_ok-listing.ensures) in
    record {
      question = refl;
      values_are = refl;
      covered = rw (c.new-3.ensures.items, c.new-4.ensures.items) refl;
      cover = rw (c.new-3.ensures.items, c.new-4.ensures.items) none;
    }
