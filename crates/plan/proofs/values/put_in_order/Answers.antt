use Rattle.std.proofs.Common.{◌∙◌, sym}
use Rattle.std.specs.Cmp.{Equal-is}
use Rattle.std.proofs.lemmas.List.Filters.{dedup_is}
use Rattle.std.proofs.lemmas.List.Kept.{Contains-dedup, Contains-from_dedup, IsStrictlySortedBy-dedup}
use Rattle.std.proofs.lemmas.List.Sorted.{Contains-permutation, IsPermutation-sym}
use Rattle.std.proofs.lemmas.Map.Keys.{Less-from_sorted}
use Rattle.plan.proofs.values.put_in_order.Goals as goal

pub returns : goal.returns
returns g c = λ same.
    let is = dedup_is _ _ _ c.dedup.ensures.filtered in
    let moved = c.sort_unstable.ensures.permutation in
    record {
      each = λ x. (
        (λ h. Contains-permutation _ _ x (IsPermutation-sym _ _ moved) (Contains-from_dedup _ _ x (rw is at h))),
        λ h. rw is (Contains-dedup g.met.T.Eq.laws (λ x y e. same x y ((Equal-is _).0 (sym (g.met.T.Ord.matches_eq x y) ∙ e))) _ x (Contains-permutation _ _ x moved h)),
      );
      ascending = λ i j d before within. Less-from_sorted g.T.Ord.cmp c.dedup.new.self.items i j d (rw is (IsStrictlySortedBy-dedup g.met.T.Ord.total g.met.T.Ord.matches_eq c.sort_unstable.new.self.items c.sort_unstable.ensures.sorted)) before within;
    }
