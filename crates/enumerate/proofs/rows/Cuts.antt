-- Members that are kept, cut off and put back.
use Rattle.std.specs.Prelude.{◌≡◌, ℕ, zero, suc, ◌+◌, ◌<◌, List, take, drop, get_or}
use Rattle.std.proofs.Common.{refl, ap, sym, ◌∙◌, subst, arith, [], ◌∷◌, ◌++◌, length, append_assoc}
use Rattle.std.proofs.lemmas.List.{take_at, drop_more}
use Rattle.jtree.specs.View.{members_of}
use Rattle.jtree.specs.declared.value.Member.{Member}
use Rattle.plan.specs.Pools.Pools.{Pools}
use Rattle.plan.specs.Samples.Sites.{Slot}
use Rattle.enumerate.specs.Internal.Moves.{Begins}
use Rattle.enumerate.specs.Internal.Rows.{Demand, IsGrown}
use Rattle.enumerate.specs.Internal.Walks.{AreLeft}
use Rattle.enumerate.specs.declared.walk.NextParts.{NextParts}
use Rattle.enumerate.specs.declared.walk.NextParts.TheVariants.{Made, Last}

pub begins_within : (k : List ℕ) (xs : List Member) (t : ℕ) → Begins k (members_of (drop t xs)) → t < length xs
begins_within k [] zero h = absurd h
begins_within k [] (suc t) h = absurd h
begins_within k (x ∷ xs) zero h = omega arith
begins_within k (x ∷ xs) (suc t) h = let r = begins_within k xs t h in omega (arith, r)

-- the member at the place
pub member_here : (k : List ℕ) (t : ℕ) (xs : List Member) (x : Member) → Begins k (members_of (drop t xs)) → x ≡ get_or xs t x → drop t xs ≡ x ∷ drop (t + 1) xs
member_here k t xs x begin is = drop_more xs t x (begins_within k xs t begin) ∙ ap (λ m. m ∷ drop (t + 1) xs) (sym is)

-- the same where a place is counted in other words
pub at_count : (xs : List Member) (m : Member) {n t : ℕ} → n ≡ t → m ≡ get_or xs n m → m ≡ get_or xs t m
at_count xs m e h = subst (λ k. m ≡ get_or xs k m) e h

pub begins_at : (k : List ℕ) (xs : List Member) {n t : ℕ} → n ≡ t → Begins k (members_of (drop n xs)) → Begins k (members_of (drop t xs))
begins_at k xs e h = subst (λ n. Begins k (members_of (drop n xs))) e h

-- what came first is kept where more was put after it
pub front_kept : {X : Type 0} (front more new : List X) → new ≡ front ++ more → take (length front) new ≡ front
front_kept front more new is = ap (take (length front)) is ∙ take_at front more (length front) refl

pub grown_left : (made : NextParts) (P : Pools) (s : Slot) (ss : List Slot) (d : Demand) (from : ℕ) (old new : List Member) → IsGrown made P s ss d from old new → AreLeft made old new
grown_left (Made n) P s ss d from old new h = front_kept old (h.0.one ∷ h.0.rest.added) new (h.0.rest.is ∙ append_assoc old (h.0.one ∷ []) h.0.rest.added)
grown_left (Last n) P s ss d from old new h = h.0
