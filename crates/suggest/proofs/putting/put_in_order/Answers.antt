use Rattle.std.proofs.Common.{◌≡◌, ◌∙◌, sym}
use Rattle.std.specs.Cmp.{Equal-is}
use Rattle.std.specs.declared.cmp.Ordering.TheVariants.{Less}
use Rattle.std.proofs.lemmas.List.Filters.{dedup_is}
use Rattle.std.proofs.lemmas.List.Kept.{Contains-dedup, Contains-from_dedup, IsStrictlySortedBy-dedup}
use Rattle.std.proofs.lemmas.List.Sorted.{Contains-permutation, IsPermutation-sym}
use Rattle.std.proofs.lemmas.Map.Keys.{Less-from_sorted}
use Rattle.jtree.specs.Internal.Rising.{contains, contained, rising}
use Rattle.suggest.proofs.AscendingLemmas.{is_ascending}
use Rattle.suggest.proofs.putting.put_in_order.Goals as goal

pub returns : goal.returns
returns g c = λ same.
    let is = dedup_is _ _ _ c.dedup.ensures.filtered in
    let moved = c.sort_unstable.ensures.permutation in
    let old = c.args.list.now.items in
    let new = c.dedup.new.self.items in
    is_ascending g.met.T.Ord.total same old new
    (rising (λ x y. g.T.Ord.cmp x y ≡ Less) new (λ i j d before within. Less-from_sorted g.T.Ord.cmp new i j d (rw is (IsStrictlySortedBy-dedup g.met.T.Ord.total g.met.T.Ord.matches_eq c.sort_unstable.new.self.items c.sort_unstable.ensures.sorted)) before within))
    (λ x a. contained new x (rw is (Contains-dedup g.met.T.Eq.laws (λ x y e. same x y ((Equal-is _).0 (sym (g.met.T.Ord.matches_eq x y) ∙ e))) _ x (Contains-permutation _ _ x moved (contains old x a)))))
    (λ x a. contained old x (Contains-permutation _ _ x (IsPermutation-sym _ _ moved) (Contains-from_dedup _ _ x (rw is at (contains new x a)))))
