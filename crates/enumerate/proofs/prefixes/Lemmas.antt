-- Finding what is before a place of a row, from the first slot on.
use Rattle.std.specs.Prelude.{◌≡◌, ◌==◌, ℕ, zero, suc, ◌+◌, ◌-◌, ◌<◌, List, Bool, true, false, All, Option, Some, None, drop, length, Contains}
use Rattle.std.proofs.Common.{refl, ap, sym, ◌∙◌, subst, inl, arith, [], ◌∷◌}
use Rattle.jtree.specs.Data.{Data, Members, IsNameBefore}
use Rattle.jtree.specs.Internal.Rising.{contains}
use Rattle.jtree.specs.Order.{text_cmp}
use Rattle.jtree.specs.View.{data_of, members_of}
use Rattle.jtree.specs.declared.value.Member.{Member}
use Rattle.std.specs.declared.cmp.Ordering.TheVariants.{Less}
use Rattle.plan.specs.Pools.Pools.{Pools}
use Rattle.plan.specs.Samples.Keys.{AreInOrder}
use Rattle.plan.specs.Samples.Sites.{Slot}
use Rattle.plan.specs.Samples.Sizes.{AreFillings, Before, filled}
use Rattle.enumerate.specs.Internal.Moves.{Begins}
use Rattle.enumerate.specs.Internal.Prefixes.{members_to, before_at, used_at}
use Rattle.enumerate.specs.Internal.Candidates.{agreeing_if}
use Rattle.plan.specs.Samples.Question.{Question}
use Rattle.enumerate.specs.Internal.Rows.{still_used, slots_from, slot_in}
use Rattle.std.proofs.lemmas.List.{drop-drop, nil_from_length}
use Rattle.enumerate.proofs.lists.Walks.{empty_len}
use Rattle.plan.specs.Samples.Presence.{with_bit}
use Rattle.enumerate.proofs.rows.Moves.{never_begins}
use Rattle.enumerate.proofs.rows.Order.{later}

-- What is known before a slot, and what is left to find of `n` slots from it on, which are filled so.
pub record IsLeft (P : Pools) (n : ℕ) (ss : List Slot) (gs : List (Option Data)) (members : Members) (x before : Before) (rows used : List Data) : Type 0 where
  pub order : AreInOrder ss
  pub fit : AreFillings P ss gs
  pub members_are : members ≡ members_to n ss gs
  pub before_is : before ≡ before_at n ss gs x
  pub used_are : used ≡ used_at n ss gs rows

before_to : (k : List ℕ) (n : ℕ) (ss : List Slot) (gs : List (Option Data)) → ((t : Slot) → Contains ss t → text_cmp k t.name ≡ Less) → IsNameBefore k (members_to n ss gs)
before_to k zero ss gs o = tt
before_to k (suc n) [] gs o = tt
before_to k (suc n) (s ∷ ss) [] o = tt
before_to k (suc n) (s ∷ ss) (None ∷ gs) o = before_to k n ss gs (λ t c. o t (later s ss t c))
before_to k (suc n) (s ∷ ss) (Some v ∷ gs) o = o s (contains (s ∷ ss) s (inl refl))

module _ (P : Pools) (n : ℕ) (here : Slot) (after : List Slot) (x before : Before) (rows used : List Data) where
  -- the slot is left out, where the members do not begin with its name
  pub left_out : (gs : List (Option Data)) (members : Members) → IsLeft P (suc n) (here ∷ after) gs members x before rows used → (Begins here.name members → ⊥) → IsLeft P n after (drop 1 gs) members x before rows used
  left_out [] _ l other = absurd l.fit
  left_out (None ∷ gs) _ l other = record { order = l.order.1; fit = l.fit.1; members_are = l.members_are; before_is = l.before_is; used_are = l.used_are }
  left_out (Some v ∷ gs) _ l other = absurd (other (subst (Begins here.name) (sym l.members_are) refl))

  -- the first of the members is in it
  pub left_in : (gs : List (Option Data)) (one : Member) (members : List Member) → IsLeft P (suc n) (here ∷ after) gs (members_of (one ∷ members)) x before rows used → one.name ≡ here.name
      → IsLeft P n after (drop 1 gs) (members_of members) (filled here.bit x) before (still_used here (data_of one.tree) rows) used
  left_in [] one members l name = absurd l.fit
  left_in (None ∷ gs) one members l name = absurd (never_begins here.name (members_to n after gs) (before_to here.name n after gs l.order.0) (subst (Begins here.name) l.members_are name))
  left_in (Some v ∷ gs) one members l name =
      let are = l.members_are in
      let value : data_of one.tree ≡ v = cc in
      record {
        order = l.order.1;
        fit = l.fit.1;
        members_are = cc;
        before_is = l.before_is;
        used_are = l.used_are ∙ ap (λ u. used_at n after gs (still_used here u rows)) (sym value);
      }

-- one slot further
module _ (q : Question) (i earlier place : ℕ) (first : slots_from q i earlier ≡ slot_in q i earlier ∷ slots_from q i (earlier + 1)) (below : earlier < place) (gs : List (Option Data)) (x before : Before) (rows used : List Data) where
  abbrev here : Slot
  here = slot_in q i earlier

  abbrev after : List Slot
  after = slots_from q i (earlier + 1)

  so_left : (members : Members) → IsLeft q.pools (place - earlier) (slots_from q i earlier) (drop earlier gs) members x before rows used → IsLeft q.pools (suc (place - (earlier + 1))) (here ∷ after) (drop earlier gs) members x before rows used
  so_left members l =
      let fewer : place - earlier ≡ suc (place - (earlier + 1)) = omega (arith, below) in
      subst (λ n. IsLeft q.pools n (here ∷ after) (drop earlier gs) members x before rows used) fewer (subst (λ ss. IsLeft q.pools (place - earlier) ss (drop earlier gs) members x before rows used) first l)

  pub passed_out : (members : Members) → IsLeft q.pools (place - earlier) (slots_from q i earlier) (drop earlier gs) members x before rows used → (Begins here.name members → ⊥)
      → IsLeft q.pools (place - (earlier + 1)) after (drop (earlier + 1) gs) members x before rows used
  passed_out members l other =
      subst (λ hs. IsLeft q.pools (place - (earlier + 1)) after hs members x before rows used) (drop-drop 1 earlier gs)
      (left_out q.pools (place - (earlier + 1)) here after x before rows used (drop earlier gs) members (so_left members l) other)

  pub passed_in : (one : Member) (members : List Member) → IsLeft q.pools (place - earlier) (slots_from q i earlier) (drop earlier gs) (members_of (one ∷ members)) x before rows used → one.name ≡ here.name
      → IsLeft q.pools (place - (earlier + 1)) after (drop (earlier + 1) gs) (members_of members) (filled here.bit x) before (still_used here (data_of one.tree) rows) used
  passed_in one members l name =
      subst (λ hs. IsLeft q.pools (place - (earlier + 1)) after hs (members_of members) (filled here.bit x) before (still_used here (data_of one.tree) rows) used) (drop-drop 1 earlier gs)
      (left_in q.pools (place - (earlier + 1)) here after x before rows used (drop earlier gs) one members (so_left (members_of (one ∷ members)) l) name)

-- ---- where neither used rows nor named fields matter

still_none : (s : Slot) (v : Data) → still_used s v [] ≡ []
still_none s v = none s.key s.name
  where
    none : (key : Bool) (name : List ℕ) → agreeing_if key name v [] ≡ []
    none true name = refl
    none false name = refl

pub used_none : (place : ℕ) (ss : List Slot) (gs : List (Option Data)) → used_at place ss gs [] ≡ []
used_none zero ss gs = refl
used_none (suc place) [] gs = refl
used_none (suc place) (s ∷ ss) [] = refl
used_none (suc place) (s ∷ ss) (None ∷ gs) = used_none place ss gs
used_none (suc place) (s ∷ ss) (Some v ∷ gs) = subst (λ us. used_at place ss gs us ≡ []) (sym (still_none s v)) (used_none place ss gs)

pub before_plain : (place : ℕ) (ss : List Slot) (gs : List (Option Data)) (x : Before) (front : List Member) → All (λ s. s.bit ≡ None) ss → members_of front ≡ members_to place ss gs → before_at place ss gs x ≡ record { count = x.count + length front; seen = x.seen }
before_plain zero ss gs x [] plain are = let c : x.count ≡ x.count + 0 = omega arith in ap (λ n. record { count = n; seen = x.seen }) c
before_plain zero ss gs x (one ∷ front) plain are = absurd (cc)
before_plain (suc place) [] gs x [] plain are = let c : x.count ≡ x.count + 0 = omega arith in ap (λ n. record { count = n; seen = x.seen }) c
before_plain (suc place) [] gs x (one ∷ front) plain are = absurd (cc)
before_plain (suc place) (s ∷ ss) [] x [] plain are = let c : x.count ≡ x.count + 0 = omega arith in ap (λ n. record { count = n; seen = x.seen }) c
before_plain (suc place) (s ∷ ss) [] x (one ∷ front) plain are = absurd (cc)
before_plain (suc place) (s ∷ ss) (None ∷ gs) x front plain are = before_plain place ss gs x front (λ k d lt. plain (suc k) d (omega (arith, lt))) are
before_plain (suc place) (s ∷ ss) (Some v ∷ gs) x [] plain are = absurd (cc)
before_plain (suc place) (s ∷ ss) (Some v ∷ gs) x (one ∷ front) plain are =
    let others : members_of front ≡ members_to place ss gs = cc in
    let none : s.bit ≡ None = plain 0 s (omega arith) in
    let h = before_plain place ss gs (filled s.bit x) front (λ k d lt. plain (suc k) d (omega (arith, lt))) others in
    let c : x.count + 1 + length front ≡ x.count + suc (length front) = omega arith in
    h ∙ ap (λ b. record { count = x.count + 1 + length front; seen = with_bit b x.seen }) none ∙ ap (λ n. record { count = n; seen = x.seen }) c

-- no members, so that all used rows agree
pub used_first : (place : ℕ) (ss : List Slot) (gs : List (Option Data)) (used : List Data) → members_of [] ≡ members_to place ss gs → used_at place ss gs used ≡ used
used_first zero ss gs used are = refl
used_first (suc place) [] gs used are = refl
used_first (suc place) (s ∷ ss) [] used are = refl
used_first (suc place) (s ∷ ss) (None ∷ gs) used are = used_first place ss gs used are
used_first (suc place) (s ∷ ss) (Some v ∷ gs) used are = absurd (cc)

pub no_rows : (rows : List Data) (empty : Bool) → empty ≡ (length rows == 0) → empty ≡ true → rows ≡ []
no_rows rows empty is so = nil_from_length rows (empty_len (length rows) (sym is ∙ so))
