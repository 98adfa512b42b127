-- Walking a row from the last slot to the first.
use Rattle.std.specs.Prelude.{◌≡◌, ◌↔◌, ℕ, zero, suc, ◌+◌, ◌-◌, ◌≤◌, slice_get, List, true, false, Option, Some, None, drop, length}
use Rattle.std.proofs.Common.{refl, ap, sym, ◌∙◌, subst, inl, inr, arith, [], ◌∷◌, ◌++◌}
use Rattle.jtree.specs.Data.{Data, no_members, member}
use Rattle.std.proofs.Math.ListN.{drop_of_length-le}
use Rattle.std.proofs.lemmas.List.{take-append-drop}
use Rattle.enumerate.specs.Page.{IsPast}
use Rattle.plan.specs.Samples.Part.{IsPart}
use Rattle.jtree.specs.Nodes.{node_count, members_count, most_nodes}
use Rattle.jtree.specs.View.{data_of, members_of}
use Rattle.jtree.specs.declared.value.Member.{Member}
use Rattle.jtree.specs.Internal.Lookups.{not_itself}
use Rattle.jtree.specs.Internal.Rising.{Among, contains}
use Rattle.plan.specs.Pools.Pools.{Pools}
use Rattle.plan.specs.Samples.Sites.{Slot}
use Rattle.plan.specs.Samples.Sizes.{AreFillings, filled_nodes, Before, nothing, filled, CanFill}
use Rattle.plan.specs.Samples.Question.{Question}
use Rattle.plan.specs.Samples.RuleOfParts.{members_in}
use Rattle.plan.specs.Samples.Keys.{AreKeySlots, AreInOrder, HasSoundParts}
use Rattle.enumerate.specs.Least.{IsNext}
use Rattle.enumerate.specs.Internal.Rows.{fill_cmp, Demand, demand_at, demand_after, CanMeet, IsRest, IsGrown, IsValue, FitsSlot, AreUsed, IsOpen, still_used, slots_from, slot_in, ending_at}
use Rattle.enumerate.specs.Internal.Candidates.{used_rows}
use Rattle.enumerate.specs.declared.row.Ahead.{Ahead}
use Rattle.enumerate.specs.declared.row.Removed.{Removed}
use Rattle.enumerate.specs.Internal.Nodes.{site}
use Rattle.enumerate.specs.Internal.Walks.{demand_from, IsCut, IsWalkedTo, AreWalked, AreLeft}
use Rattle.enumerate.specs.Internal.Moves.{AreNext, AreNextMembers, AreLastAfter, AreInSlots, demand_of}
use Rattle.enumerate.specs.declared.walk.NextParts.{NextParts}
use Rattle.enumerate.specs.declared.walk.NextParts.TheVariants as parts
use Rattle.enumerate.specs.Internal.Following.{MembersContinue, GrownContinue}
use Rattle.enumerate.specs.Internal.Prefixes.{members_to, before_at, used_at, EndsIn}
use Rattle.enumerate.proofs.samples.Following.{may_out, may_in}
use Rattle.enumerate.proofs.rows.Lemmas.{AreFilled, filled_out, filled_in, can_fill, key_here, keys_after, no_key, used_after, used_out}
use Rattle.enumerate.proofs.rows.Moves.{moved_out, moved_in}
use Rattle.enumerate.proofs.lists.Lemmas.{some_nodes}
use Rattle.enumerate.proofs.rows.Slots.{keys_at, nothing_after}
use Rattle.enumerate.proofs.rows.Cuts.{grown_left}
use Rattle.enumerate.proofs.rows.SlotMoves.{open_here, in_slots_nodes, IsLastOut, filled_here, out_grown, in_grown}

-- ---- at a place of slots that are filled

-- the rest is in the slots from the place on
pub filled_from : (P : Pools) (place : ℕ) (ss : List Slot) (gs : List (Option Data)) (d : Demand) → AreFilled P ss d gs → IsRest P (drop place ss) (demand_from place ss gs d) (drop place gs)
filled_from P zero ss gs d h = record { are = h.rest.are; ends = h.rest.ends; nodes_are = refl; unused = h.rest.unused }
filled_from P (suc place) [] [] d h = record { are = h.rest.are; ends = h.rest.ends; nodes_are = refl; unused = h.rest.unused }
filled_from P (suc place) [] (g ∷ gs) d h = absurd h.rest.are
filled_from P (suc place) (s ∷ ss) [] d h = absurd h.rest.are
filled_from P (suc place) (s ∷ ss) (None ∷ gs) d h = filled_from P place ss gs d (filled_out P s ss d gs h)
filled_from P (suc place) (s ∷ ss) (Some v ∷ gs) d h = filled_from P place ss gs (demand_after s v (filled_nodes gs) d) (filled_in P s ss d v gs h)

-- ---- what moves at a place moves the row

same_next : (P : Pools) (ss : List Slot) (d : Demand) (gs : List (Option Data)) (new : List Member) → filled_nodes gs ≡ d.room → AreNext P ss (record d { room = filled_nodes gs }) gs new → AreNext P ss d gs new
same_next P ss d gs new nodes h = subst (λ n. AreNext P ss (record d { room = n }) gs new) nodes h

pub next_from : (P : Pools) (place : ℕ) (ss : List Slot) (gs : List (Option Data)) (d : Demand) (front new : List Member) → AreFilled P ss d gs → members_of front ≡ members_to place ss gs → AreNext P (drop place ss) (demand_from place ss gs d) (drop place gs) new → AreNext P ss d gs (front ++ new)
next_from P zero ss gs d [] new h are next = same_next P ss d gs new h.rest.nodes_are next
next_from P zero ss gs d (one ∷ front) new h are next = cc
next_from P (suc place) [] [] d [] new h are next = same_next P [] d [] new h.rest.nodes_are next
next_from P (suc place) [] [] d (one ∷ front) new h are next = cc
next_from P (suc place) [] (g ∷ gs) d front new h are next = absurd h.rest.are
next_from P (suc place) (s ∷ ss) [] d front new h are next = absurd h.rest.are
next_from P (suc place) (s ∷ ss) (None ∷ gs) d front new h are next = moved_out P s ss d h.keys gs (front ++ new) h.small h.rest.are.0 (next_from P place ss gs d front new (filled_out P s ss d gs h) are next)
next_from P (suc place) (s ∷ ss) (Some v ∷ gs) d [] new h are next = cc
next_from P (suc place) (s ∷ ss) (Some v ∷ gs) d (one ∷ front) new h are next =
    let name : one.name ≡ s.name = cc in
    let value : data_of one.tree ≡ v = cc in
    let others : members_of front ≡ members_to place ss gs = cc in
    moved_in P s ss d h.keys v gs h.rest h.small one (front ++ new) name value (next_from P place ss gs (demand_after s v (filled_nodes gs) d) front new (filled_in P s ss d v gs h) others next)

pub continue_from : {P : Pools} (place : ℕ) (ss : List Slot) (gs : List (Option Data)) (used : List Data) (front new : List Member) (cs : List Data) → AreFillings P ss gs → members_of front ≡ members_to place ss gs → MembersContinue P (drop place ss) (used_at place ss gs used) new cs → MembersContinue P ss used (front ++ new) cs
continue_from zero ss gs used [] new cs fit are h = h
continue_from zero ss gs used (one ∷ front) new cs fit are h = cc
continue_from (suc place) [] [] used [] new cs fit are h = h
continue_from (suc place) [] [] used (one ∷ front) new cs fit are h = cc
continue_from (suc place) [] (g ∷ gs) used front new cs fit are h = absurd fit
continue_from (suc place) (s ∷ ss) [] used front new cs fit are h = absurd fit
continue_from {P} (suc place) (s ∷ ss) (None ∷ gs) used front new cs fit are h =
    let m = continue_from place ss gs used front new cs fit.1 are h in
    record { fillings = None ∷ m.fillings; are = m.are; fit = (fit.0, m.fit); continue = may_out P s ss used m.fillings cs m.continue }
continue_from (suc place) (s ∷ ss) (Some v ∷ gs) used [] new cs fit are h = cc
continue_from {P} (suc place) (s ∷ ss) (Some v ∷ gs) used (one ∷ front) new cs fit are h =
    let name : one.name ≡ s.name = cc in
    let value : data_of one.tree ≡ v = cc in
    let others : members_of front ≡ members_to place ss gs = cc in
    let m = continue_from place ss gs (still_used s v used) front new cs fit.1 others h in
    record { fillings = Some v ∷ m.fillings; are = λ k. member (name k) (value k) (m.are k); fit = (fit.0, m.fit); continue = may_in P s ss used v m.fillings cs m.continue }

-- ---- one place less

-- the slot at the place is left out, where the last member before the next one has another name
pub out_at : (P : Pools) (place : ℕ) (ss : List Slot) (here : Slot) (gs : List (Option Data)) (members : List Member) → AreFillings P ss gs → drop place ss ≡ here ∷ drop (suc place) ss → members_of members ≡ members_to (suc place) ss gs → (EndsIn here.name members → ⊥)
    → (drop place gs ≡ None ∷ drop (suc place) gs) × (here.must ≡ false) × (members_of members ≡ members_to place ss gs)
out_at P zero [] here gs members fit first are other = absurd (cc)
out_at P zero (s ∷ ss) here [] members fit first are other = absurd fit
out_at P zero (s ∷ ss) here (None ∷ gs) members fit first are other = let same : s ≡ here = cc in (refl, subst (λ t. t.must ≡ false) same fit.0, are)
out_at P zero (s ∷ ss) here (Some v ∷ gs) [] fit first are other = absurd (cc)
out_at P zero (s ∷ ss) here (Some v ∷ gs) (one ∷ []) fit first are other = let same : s ≡ here = cc in let name : one.name ≡ s.name = cc in absurd (other (name ∙ ap (λ t. t.name) same))
out_at P zero (s ∷ ss) here (Some v ∷ gs) (one ∷ two ∷ members) fit first are other = absurd (cc)
out_at P (suc place) [] here gs members fit first are other = absurd (cc)
out_at P (suc place) (s ∷ ss) here [] members fit first are other = absurd fit
out_at P (suc place) (s ∷ ss) here (None ∷ gs) members fit first are other = out_at P place ss here gs members fit.1 first are other
out_at P (suc place) (s ∷ ss) here (Some v ∷ gs) [] fit first are other = absurd (cc)
out_at P (suc place) (s ∷ ss) here (Some v ∷ gs) (one ∷ members) fit first are other =
    let name : one.name ≡ s.name = cc in
    let value : data_of one.tree ≡ v = cc in
    let others : members_of members ≡ members_to (suc place) ss gs = cc in
    let h = out_at P place ss here gs members fit.1 first others (not_after one members here.name other) in
    (h.0, h.1, λ k. member (name k) (value k) (h.2 k))
  where
    not_after : (one : Member) (members : List Member) (k : List ℕ) → (EndsIn k (one ∷ members) → ⊥) → EndsIn k members → ⊥
    not_after one [] k other e = e
    not_after one (two ∷ members) k other e = other e

-- a slot among slots
among_slots : (place : ℕ) (ss : List Slot) (here : Slot) → drop place ss ≡ here ∷ drop (suc place) ss → Among ss here
among_slots zero [] here first = absurd (cc)
among_slots zero (s ∷ ss) here first = let same : s ≡ here = cc in inl same
among_slots (suc place) [] here first = absurd (cc)
among_slots (suc place) (s ∷ ss) here first = inr (among_slots place ss here first)

not_empty : (front : List Member) (one : Member) → members_of (front ++ one ∷ []) ≡ no_members → ⊥
not_empty [] one e = cc
not_empty (a ∷ front) one e = cc

-- the last member is in the slot at the place, where it has its name
pub in_at : (place : ℕ) (ss : List Slot) (here : Slot) (gs : List (Option Data)) (front : List Member) (one : Member) → AreInOrder ss → drop place ss ≡ here ∷ drop (suc place) ss → members_of (front ++ one ∷ []) ≡ members_to (suc place) ss gs → one.name ≡ here.name
    → (drop place gs ≡ Some (data_of one.tree) ∷ drop (suc place) gs) × (members_of front ≡ members_to place ss gs)
in_at zero [] here gs front one order first are name = absurd (cc)
in_at zero (s ∷ ss) here [] front one order first are name = absurd (not_empty front one are)
in_at zero (s ∷ ss) here (None ∷ gs) front one order first are name = absurd (not_empty front one are)
in_at zero (s ∷ ss) here (Some v ∷ gs) [] one order first are name = let value : data_of one.tree ≡ v = cc in (ap (λ u. Some u ∷ gs) (sym value), refl)
in_at zero (s ∷ ss) here (Some v ∷ gs) (a ∷ front) one order first are name = absurd (not_empty front one (cc))
in_at (suc place) [] here gs front one order first are name = absurd (cc)
in_at (suc place) (s ∷ ss) here [] front one order first are name = absurd (not_empty front one are)
in_at (suc place) (s ∷ ss) here (None ∷ gs) front one order first are name = in_at place ss here gs front one order.1 first are name
in_at (suc place) (s ∷ ss) here (Some v ∷ gs) [] one order first are name =
    let same : one.name ≡ s.name = cc in
    let less = order.0 here (contains ss here (among_slots place ss here first)) in
    absurd (not_itself s.name here.name (sym same ∙ name) less)
in_at (suc place) (s ∷ ss) here (Some v ∷ gs) (a ∷ front) one order first are name =
    let own : a.name ≡ s.name = cc in
    let value : data_of a.tree ≡ v = cc in
    let others : members_of (front ++ one ∷ []) ≡ members_to (suc place) ss gs = cc in
    let h = in_at place ss here gs front one order.1 first others name in
    (h.0, λ k. member (own k) (value k) (h.1 k))

-- ---- what is carried along

pub before_out : (place : ℕ) (ss : List Slot) (gs : List (Option Data)) (x : Before) → drop place gs ≡ None ∷ drop (suc place) gs → before_at (suc place) ss gs x ≡ before_at place ss gs x
before_out zero [] gs x e = refl
before_out zero (s ∷ ss) [] x e = refl
before_out zero (s ∷ ss) (None ∷ gs) x e = refl
before_out zero (s ∷ ss) (Some v ∷ gs) x e = absurd (cc)
before_out (suc place) [] gs x e = refl
before_out (suc place) (s ∷ ss) [] x e = refl
before_out (suc place) (s ∷ ss) (None ∷ gs) x e = before_out place ss gs x e
before_out (suc place) (s ∷ ss) (Some v ∷ gs) x e = before_out place ss gs (filled s.bit x) e

pub before_in : (place : ℕ) (ss : List Slot) (here : Slot) (gs : List (Option Data)) (v : Data) (x : Before) → drop place ss ≡ here ∷ drop (suc place) ss → drop place gs ≡ Some v ∷ drop (suc place) gs → before_at (suc place) ss gs x ≡ filled here.bit (before_at place ss gs x)
before_in zero [] here gs v x first e = absurd (cc)
before_in zero (s ∷ ss) here [] v x first e = absurd (cc)
before_in zero (s ∷ ss) here (None ∷ gs) v x first e = absurd (cc)
before_in zero (s ∷ ss) here (Some u ∷ gs) v x first e = let same : s ≡ here = cc in ap (λ t. filled t.bit x) same
before_in (suc place) [] here gs v x first e = absurd (cc)
before_in (suc place) (s ∷ ss) here [] v x first e = absurd (cc)
before_in (suc place) (s ∷ ss) here (None ∷ gs) v x first e = before_in place ss here gs v x first e
before_in (suc place) (s ∷ ss) here (Some u ∷ gs) v x first e = before_in place ss here gs v (filled s.bit x) first e

pub rows_out : (place : ℕ) (ss : List Slot) (gs : List (Option Data)) (used : List Data) → drop place gs ≡ None ∷ drop (suc place) gs → used_at (suc place) ss gs used ≡ used_at place ss gs used
rows_out zero [] gs used e = refl
rows_out zero (s ∷ ss) [] used e = refl
rows_out zero (s ∷ ss) (None ∷ gs) used e = refl
rows_out zero (s ∷ ss) (Some v ∷ gs) used e = absurd (cc)
rows_out (suc place) [] gs used e = refl
rows_out (suc place) (s ∷ ss) [] used e = refl
rows_out (suc place) (s ∷ ss) (None ∷ gs) used e = rows_out place ss gs used e
rows_out (suc place) (s ∷ ss) (Some v ∷ gs) used e = rows_out place ss gs (still_used s v used) e

pub rows_in : (place : ℕ) (ss : List Slot) (here : Slot) (gs : List (Option Data)) (v : Data) (used : List Data) → drop place ss ≡ here ∷ drop (suc place) ss → drop place gs ≡ Some v ∷ drop (suc place) gs → used_at (suc place) ss gs used ≡ still_used here v (used_at place ss gs used)
rows_in zero [] here gs v used first e = absurd (cc)
rows_in zero (s ∷ ss) here [] v used first e = absurd (cc)
rows_in zero (s ∷ ss) here (None ∷ gs) v used first e = absurd (cc)
rows_in zero (s ∷ ss) here (Some u ∷ gs) v used first e = let same : s ≡ here = cc in let value : u ≡ v = cc in ap (λ t. still_used t u used) same ∙ ap (λ z. still_used here z used) value
rows_in (suc place) [] here gs v used first e = absurd (cc)
rows_in (suc place) (s ∷ ss) here [] v used first e = absurd (cc)
rows_in (suc place) (s ∷ ss) here (None ∷ gs) v used first e = rows_in place ss here gs v used first e
rows_in (suc place) (s ∷ ss) here (Some u ∷ gs) v used first e = rows_in place ss here gs v (still_used s u used) first e

-- so what is asked from the next place on is what is asked after the slot
past_out : (place : ℕ) (ss : List Slot) (gs : List (Option Data)) (d : Demand) → drop place gs ≡ None ∷ drop (suc place) gs → demand_from (suc place) ss gs d ≡ demand_from place ss gs d
past_out place ss gs d e = λ k. record { ending = d.ending; before = before_out place ss gs d.before e k; room = sym (ap filled_nodes e) k; used = rows_out place ss gs d.used e k }

past_in : (place : ℕ) (ss : List Slot) (here : Slot) (gs : List (Option Data)) (v : Data) (d : Demand) → drop place ss ≡ here ∷ drop (suc place) ss → drop place gs ≡ Some v ∷ drop (suc place) gs
    → demand_from (suc place) ss gs d ≡ demand_after here v (filled_nodes (drop (suc place) gs)) (demand_from place ss gs d)
past_in place ss here gs v d first e = λ k. record { ending = d.ending; before = before_in place ss here gs v d.before first e k; room = filled_nodes (drop (suc place) gs); used = rows_in place ss here gs v d.used first e k }

-- the used rows that agree have the keys of the slots from the place on
known_at : (P : Pools) (place : ℕ) (ss : List Slot) (gs : List (Option Data)) (used : List Data) → AreKeySlots P ss → AreFillings P ss gs → AreUsed P ss used → AreUsed P (drop place ss) (used_at place ss gs used)
known_at P zero ss gs used keys are known = known
known_at P (suc place) [] [] used keys are known = known
known_at P (suc place) [] (g ∷ gs) used keys are known = absurd are
known_at P (suc place) (s ∷ ss) [] used keys are known = absurd are
known_at P (suc place) (s ∷ ss) (None ∷ gs) used keys are known = known_at P place ss gs used (keys_after P s ss keys) are.1 (used_out P s ss used (no_key P s ss keys are.0) known)
known_at P (suc place) (s ∷ ss) (Some v ∷ gs) used keys are known = known_at P place ss gs (still_used s v used) (keys_after P s ss keys) are.1 (used_after P s ss v used known)

-- whether the last member has a name
last_at : (members : List Member) (n : ℕ) (last : Member) (k : List ℕ) → n + 1 ≡ length members → Some last ≡ slice_get members n → EndsIn k members ↔ (last.name ≡ k)
last_at [] n last k count is = absurd (omega (arith, count))
last_at (one ∷ []) zero last k count is = let same : last ≡ one = cc in (λ ends. ap (λ m. m.name) same ∙ ends, λ ends. sym (ap (λ m. m.name) same) ∙ ends)
last_at (one ∷ []) (suc n) last k count is = absurd (omega (arith, count))
last_at (one ∷ two ∷ members) zero last k count is = absurd (omega (arith, count))
last_at (one ∷ two ∷ members) (suc n) last k count is = last_at (two ∷ members) n last k (omega (arith, count)) is

pub last_is : (members : List Member) (last : Member) (k : List ℕ) → Some last ≡ slice_get members (length members - 1) → EndsIn k members ↔ (last.name ≡ k)
last_is [] last k is = absurd (cc)
last_is (one ∷ members) last k is = last_at (one ∷ members) (length (one ∷ members) - 1) last k (omega arith) is

pub some_last : (members : List Member) (k : List ℕ) → length members ≡ 0 → EndsIn k members → ⊥
some_last [] k none ends = ends
some_last (one ∷ members) k none ends = omega (arith, none)

-- the last member is the one that has the name
pub last_named : (front : List Member) (one : Member) (k : List ℕ) → EndsIn k (front ++ one ∷ []) → one.name ≡ k
last_named [] one k ends = ends
last_named (a ∷ []) one k ends = ends
last_named (a ∷ b ∷ front) one k ends = last_named (b ∷ front) one k ends

-- so many slots are filled before a place
pub count_at : (place : ℕ) (ss : List Slot) (gs : List (Option Data)) (x : Before) (front : List Member) → members_of front ≡ members_to place ss gs → (before_at place ss gs x).count ≡ x.count + length front
count_at zero ss gs x [] are = omega arith
count_at zero ss gs x (one ∷ front) are = absurd (cc)
count_at (suc place) [] gs x [] are = omega arith
count_at (suc place) [] gs x (one ∷ front) are = absurd (cc)
count_at (suc place) (s ∷ ss) [] x [] are = omega arith
count_at (suc place) (s ∷ ss) [] x (one ∷ front) are = absurd (cc)
count_at (suc place) (s ∷ ss) (None ∷ gs) x front are = count_at place ss gs x front are
count_at (suc place) (s ∷ ss) (Some v ∷ gs) x [] are = absurd (cc)
count_at (suc place) (s ∷ ss) (Some v ∷ gs) x (one ∷ front) are =
    let others : members_of front ≡ members_to place ss gs = cc in
    let c = count_at place ss gs (filled s.bit x) front others in
    omega (arith, c)

-- no more members than slots
pub few_at : (place : ℕ) (ss : List Slot) (gs : List (Option Data)) (front : List Member) → members_of front ≡ members_to place ss gs → length front ≤ place
few_at place ss gs [] are = omega arith
few_at zero ss gs (one ∷ front) are = absurd (cc)
few_at (suc place) [] gs (one ∷ front) are = absurd (cc)
few_at (suc place) (s ∷ ss) [] (one ∷ front) are = absurd (cc)
few_at (suc place) (s ∷ ss) (None ∷ gs) (one ∷ front) are = omega (arith, few_at place ss gs (one ∷ front) are)
few_at (suc place) (s ∷ ss) (Some v ∷ gs) (one ∷ front) are = let others : members_of front ≡ members_to place ss gs = cc in omega (arith, few_at place ss gs front others)

-- all members are before the end
pub whole_to : (P : Pools) (ss : List Slot) (gs : List (Option Data)) → AreFillings P ss gs → members_in ss gs ≡ members_to (length ss) ss gs
whole_to P [] [] are = refl
whole_to P [] (g ∷ gs) are = absurd are
whole_to P (s ∷ ss) [] are = absurd are
whole_to P (s ∷ ss) (None ∷ gs) are = whole_to P ss gs are.1
whole_to P (s ∷ ss) (Some v ∷ gs) are = ap (λ ms. member s.name v ms) (whole_to P ss gs are.1)

pub none_past : (P : Pools) (ss : List Slot) (gs : List (Option Data)) → AreFillings P ss gs → drop (length ss) gs ≡ []
none_past P [] [] are = refl
none_past P [] (g ∷ gs) are = absurd are
none_past P (s ∷ ss) [] are = absurd are
none_past P (s ∷ ss) (None ∷ gs) are = none_past P ss gs are.1
none_past P (s ∷ ss) (Some v ∷ gs) are = none_past P ss gs are.1

-- no more nodes from a place on than in all
fewer_from : (place : ℕ) (gs : List (Option Data)) → filled_nodes (drop place gs) ≤ filled_nodes gs
fewer_from zero gs = omega arith
fewer_from (suc place) [] = omega arith
fewer_from (suc place) (None ∷ gs) = fewer_from place gs
fewer_from (suc place) (Some v ∷ gs) = omega (arith, fewer_from place gs)

rest_same : (v : Data) (gs hs : List (Option Data)) → Some v ∷ gs ≡ Some v ∷ hs → gs ≡ hs
rest_same v gs hs e = cc

pub fewer_members : (members : List Member) → length members ≤ members_count (members_of members)
fewer_members [] = omega arith
fewer_members (one ∷ members) = omega (arith, fewer_members members, some_nodes (data_of one.tree))

pub members_pushed : (front : List Member) (one : Member) → members_count (members_of (front ++ one ∷ [])) ≡ members_count (members_of front) + node_count (data_of one.tree)
members_pushed [] one = omega arith
members_pushed (a ∷ front) one = omega (arith, members_pushed front one)

-- the nodes before a place, and from it on
nodes_at : (P : Pools) (place : ℕ) (ss : List Slot) (gs : List (Option Data)) → AreFillings P ss gs → filled_nodes gs ≡ members_count (members_to place ss gs) + filled_nodes (drop place gs)
nodes_at P zero ss gs are = omega arith
nodes_at P (suc place) [] [] are = omega arith
nodes_at P (suc place) [] (g ∷ gs) are = absurd are
nodes_at P (suc place) (s ∷ ss) [] are = absurd are
nodes_at P (suc place) (s ∷ ss) (None ∷ gs) are = nodes_at P place ss gs are.1
nodes_at P (suc place) (s ∷ ss) (Some v ∷ gs) are = omega (arith, nodes_at P place ss gs are.1)

pub kept_nodes : (q : Question) (i place : ℕ) (removed : Removed) (used : List Data) (old members : List Member) (gs : List (Option Data)) → AreInSlots q.pools (slots_from q i 0) (demand_of q i used gs) old gs → IsWalkedTo q i place removed used members gs
    → members_count (members_of members) + removed.room ≡ members_count (members_of old)
kept_nodes q i place removed used old members gs h w =
    let all = nodes_at q.pools place (slots_from q i 0) gs w.cut.whole.are in
    let whole = in_slots_nodes q.pools (slots_from q i 0) (demand_of q i used gs) old gs h in
    omega (arith, all, ap members_count w.cut.front, w.room_is, whole)

module _ (q : Question) (i : ℕ) (sound : HasSoundParts q.pools (site q i)) (used : List Data) where
  abbrev P : Pools
  P = q.pools

  abbrev ss : List Slot
  ss = slots_from q i 0

  keys : AreKeySlots P ss
  keys = keys_at q i 0 sound

  pub so_many : (place : ℕ) (gs : List (Option Data)) (front : List Member) → members_of front ≡ members_to place ss gs → (before_at place ss gs nothing).count ≡ length front
  so_many place gs front are = omega (arith, count_at place ss gs nothing front are)

  -- what is asked from a place on
  abbrev pub asked_from : ℕ → List (Option Data) → Demand
  asked_from place gs = demand_from place ss gs (demand_of q i used gs)

  rest_at : (place : ℕ) (gs : List (Option Data)) → filled_nodes gs ≤ most_nodes → IsRest P ss (demand_of q i used gs) gs → IsRest P (slots_from q i place) (asked_from place gs) (drop place gs)
  rest_at place gs small whole = filled_from P place ss gs (demand_of q i used gs) (record { keys = keys; small = small; rest = whole })

  -- nothing was removed
  pub walk_begins : (n : ℕ) (before : Before) (members : List Member) (gs : List (Option Data)) → n ≡ length ss → members_count (members_of members) ≤ most_nodes → AreInSlots P ss (demand_of q i used gs) members gs → IsWalkedTo q i n (record { room = 0; before = before }) used members gs
  walk_begins n before members gs all few h =
      let are = h.rest.are in
      let small : filled_nodes gs ≤ most_nodes = omega (arith, few, in_slots_nodes P ss (demand_of q i used gs) members gs h) in
      let past : drop n gs ≡ [] = ap (λ k. drop k gs) all ∙ none_past P ss gs are in
      let no_slots : slots_from q i n ≡ [] = drop_of_length-le ss (omega (arith, all)) in
      let none : filled_nodes (drop n gs) ≡ 0 = ap filled_nodes past in
      record {
        cut = record {
          small = small;
          whole = h.rest;
          front = h.are ∙ whole_to P ss gs are ∙ ap (λ k. members_to k ss gs) (sym all);
          after = [];
          after_are = sym (ap (λ us. members_in us (drop n gs)) no_slots ∙ ap (members_in []) past);
        };
        room_is = none;
        last = nothing_after P (slots_from q i n) (asked_from n gs) (drop n gs) (rest_at n gs small h.rest).are none none;
        known = λ some. absurd (some refl);
      }

  module _ (place : ℕ) (first : slots_from q i place ≡ slot_in q i place ∷ slots_from q i (place + 1)) where
    abbrev here : Slot
    here = slot_in q i place

    abbrev after : List Slot
    after = slots_from q i (place + 1)

    abbrev so_far : List (Option Data) → Before
    so_far gs = before_at place ss gs nothing

    abbrev asked : List (Option Data) → Demand
    asked gs = asked_from place gs

    next_place : place + 1 ≡ suc place
    next_place = omega arith

    first_so : drop place ss ≡ here ∷ drop (suc place) ss
    first_so = subst (λ n. slots_from q i place ≡ here ∷ slots_from q i n) next_place first

    can_here : (members : List Member) (gs : List (Option Data)) → AreUsed P ss used → IsCut q i place used members gs → IsOpen P (slots_from q i place) (asked gs)
    can_here members gs known cut = open_here q i place sound first (asked gs) (drop place gs) (known_at P place ss gs used keys cut.whole.are known) (rest_at place gs cut.small cut.whole)

    few_here : (gs : List (Option Data)) → filled_nodes gs ≤ most_nodes → filled_nodes (drop place gs) ≤ most_nodes
    few_here gs small = omega (arith, small, fewer_from place gs)

    -- what is ahead is what is asked, where it is known what is before and how many nodes are removed
    pub asked_is : (a : Ahead) (gs : List (Option Data)) → a.before ≡ so_far gs → filled_nodes (drop place gs) ≡ a.room → used_rows a.used ≡ used_at place ss gs used → demand_at q i a ≡ asked gs
    asked_is a gs before room rows = λ k. record { ending = ending_at q i; before = before k; room = sym room k; used = rows k }

    -- the members are the next ones, or the slots from the place on have none
    walked_parts : (made : NextParts) (before : Before) (base new : List Member) (gs : List (Option Data)) → IsCut q i place used base gs → AreLeft made base new → before ≡ so_far gs
        → AreNextMembers made P (slots_from q i place) (asked gs) (drop place gs) (drop (so_far gs).count new) → AreWalked made q i place used before new gs
    walked_parts (parts.Made n) before base new gs cut left is h =
        let there = subst (λ n. AreNext P (slots_from q i place) (asked gs) (drop place gs) (drop n new)) (so_many place gs base cut.front) h in
        let all = next_from P place ss gs (demand_of q i used gs) base (drop (length base) new) (record { keys = keys; small = cut.small; rest = cut.whole }) cut.front there in
        subst (AreNext P ss (demand_of q i used gs) gs) (ap (λ l. l ++ drop (length base) new) (sym left) ∙ take-append-drop (length base) new) all
    walked_parts (parts.Last n) before base new gs cut left is h = record { cut = subst (λ l. IsCut q i place used l gs) (sym left) cut; room_is = h.1; last = h.0; known = λ some. is }

    pub walked_continue : (made : NextParts) (base new : List Member) (gs : List (Option Data)) (cs : List Data) → IsCut q i place used base gs → AreLeft made base new
        → GrownContinue made P (slots_from q i place) (used_at place ss gs used) (drop (so_far gs).count new) cs → GrownContinue made P ss used new cs
    walked_continue (parts.Made n) base new gs cs cut left h =
        let there = subst (λ n. MembersContinue P (slots_from q i place) (used_at place ss gs used) (drop n new) cs) (so_many place gs base cut.front) h in
        subst (λ l. MembersContinue P ss used l cs) (ap (λ l. l ++ drop (length base) new) (sym left) ∙ take-append-drop (length base) new) (continue_from place ss gs used base (drop (length base) new) cs cut.whole.are cut.front there)
    walked_continue (parts.Last n) base new gs cs cut left h = tt

    -- the slot is left out
    pub record IsLeftOut (r : Removed) (members : List Member) (gs : List (Option Data)) : Type 0 where
      pub cut : IsCut q i place used members gs
      pub room_is : filled_nodes (drop place gs) ≡ r.room
      pub ended : IsLastOut q i place (asked gs) (drop place gs)
      pub known : (r.room ≡ 0 → ⊥) → r.before ≡ so_far gs
      pub can : IsOpen P (slots_from q i place) (asked gs)

    pub out_walked : (r : Removed) (members : List Member) (gs : List (Option Data)) → AreUsed P ss used → IsWalkedTo q i (place + 1) r used members gs → (EndsIn here.name members → ⊥) → IsLeftOut r members gs
    out_walked r members gs known w other =
        let o = out_at P place ss here gs members w.cut.whole.are first_so (w.cut.front ∙ ap (λ n. members_to n ss gs) next_place) other in
        let same : asked_from (place + 1) gs ≡ asked gs = ap (λ n. asked_from n gs) next_place ∙ past_out place ss gs (demand_of q i used gs) o.0 in
        let nodes : filled_nodes (drop place gs) ≡ r.room = ap filled_nodes o.0 ∙ ap (λ n. filled_nodes (drop n gs)) (sym next_place) ∙ w.room_is in
        let before = ap (λ (d : Demand). d.before) same in
        let cut : IsCut q i place used members gs = record {
          small = w.cut.small;
          whole = w.cut.whole;
          front = o.2;
          after = w.cut.after;
          after_are = w.cut.after_are ∙ ap (λ n. members_in after (drop n gs)) next_place ∙ sym (ap (λ ts. members_in ts (drop place gs)) first ∙ ap (members_in (here ∷ after)) o.0);
        } in
        record {
          cut = cut;
          room_is = nodes;
          ended = record {
            small = few_here gs w.cut.small;
            rest = drop (suc place) gs;
            is = o.0;
            must = o.1;
            last = subst (λ hs. IsNext fill_cmp (IsRest P after (asked gs)) hs None) (ap (λ n. drop n gs) next_place) (subst (λ d. IsNext fill_cmp (IsRest P after d) (drop (place + 1) gs) None) same w.last);
          };
          known = λ some. w.known some ∙ before;
          can = can_here members gs known cut;
        }

    pub walked_out : (r : Removed) (members : List Member) (gs : List (Option Data)) → IsLeftOut r members gs → IsNext fill_cmp (IsRest P (slots_from q i place) (asked gs)) (drop place gs) None → IsWalkedTo q i place r used members gs
    walked_out r members gs o none = record { cut = o.cut; room_is = o.room_is; last = none; known = o.known }

    -- no size fits where the slot is left out
    pub nothing_fits : (r : Removed) (members : List Member) (gs : List (Option Data)) → IsLeftOut r members gs → ((n : ℕ) → FitsSlot P here after (asked gs) n → ⊥) → IsNext fill_cmp (IsRest P (slots_from q i place) (asked gs)) (drop place gs) None
    nothing_fits r members gs o none =
        (out_grown q i place sound first (parts.Last (filled_nodes (drop place gs))) (asked gs) (drop place gs) members members o.ended (sym (so_many place gs members o.cut.front)) (refl, (λ n least. none n), refl)).0

    -- nothing was removed, and nothing is in the slot
    pub nothing_there : (r : Removed) (members : List Member) (gs : List (Option Data)) → IsLeftOut r members gs → r.room ≡ 0 → IsNext fill_cmp (IsRest P (slots_from q i place) (asked gs)) (drop place gs) None
    nothing_there r members gs o empty = nothing_after P (slots_from q i place) (asked gs) (drop place gs) (rest_at place gs o.cut.small o.cut.whole).are (o.room_is ∙ empty) (o.room_is ∙ empty)

    -- a part grows in it
    pub walked_grown : (made : NextParts) (r : Removed) (d : Demand) (members new : List Member) (gs : List (Option Data)) → IsLeftOut r members gs → d ≡ asked gs → IsGrown made P here after d 0 members new → AreWalked made q i place used d.before new gs
    walked_grown made r d members new gs o is h =
        let grown = subst (λ e. IsGrown made P here after e 0 members new) is h in
        walked_parts made d.before members new gs o.cut (grown_left made P here after (asked gs) 0 members new grown) (ap (λ (e : Demand). e.before) is)
        (out_grown q i place sound first made (asked gs) (drop place gs) members new o.ended (sym (so_many place gs members o.cut.front)) grown)

    -- the last member was in it, and was removed
    pub record IsRemoved (r : Removed) (front : List Member) (one : Member) (gs : List (Option Data)) : Type 0 where
      pub cut : IsCut q i place used front gs
      pub room_is : filled_nodes (drop place gs) ≡ r.room + node_count (data_of one.tree)
      pub after : List Member
      pub ended : AreLastAfter q i place (asked gs) one after (drop place gs)
      pub can : IsOpen P (slots_from q i place) (asked gs)

    pub removed : (r : Removed) (front : List Member) (one : Member) (gs : List (Option Data)) → AreUsed P ss used → IsWalkedTo q i (place + 1) r used (front ++ one ∷ []) gs → one.name ≡ here.name → IsRemoved r front one gs
    removed r front one gs known w name =
        let v = data_of one.tree in
        let hs = drop (suc place) gs in
        let o = in_at place ss here gs front one sound.order first_so (w.cut.front ∙ ap (λ n. members_to n ss gs) next_place) name in
        let nodes : filled_nodes hs ≡ r.room = ap (λ n. filled_nodes (drop n gs)) (sym next_place) ∙ w.room_is in
        let others : members_of w.cut.after ≡ members_in after hs = w.cut.after_are ∙ ap (λ n. members_in after (drop n gs)) next_place in
        let are : members_of (one ∷ w.cut.after) ≡ members_in (slots_from q i place) (drop place gs) = (λ k. member (name k) v (others k)) ∙ sym (ap (λ ts. members_in ts (drop place gs)) first ∙ ap (members_in (here ∷ after)) o.0) in
        let small = few_here gs w.cut.small in
        let cut : IsCut q i place used front gs = record { small = w.cut.small; whole = w.cut.whole; front = o.1; after = one ∷ w.cut.after; after_are = are } in
        let f = filled_here q i place sound first (asked gs) one w.cut.after (drop place gs) small (record { are = are; rest = rest_at place gs w.cut.small w.cut.whole }) name in
        let rest : hs ≡ f.rest = rest_same v hs f.rest (sym o.0 ∙ f.is) in
        let same : asked_from (place + 1) gs ≡ demand_after here v (filled_nodes hs) (asked gs) = ap (λ n. asked_from n gs) next_place ∙ past_in place ss here gs v (demand_of q i used gs) first_so o.0 in
        let last = subst (λ us. IsNext fill_cmp (IsRest P after (demand_after here v (filled_nodes hs) (asked gs))) us None) (ap (λ n. drop n gs) next_place) (subst (λ d. IsNext fill_cmp (IsRest P after d) (drop (place + 1) gs) None) same w.last) in
        record {
          cut = cut;
          room_is = ap filled_nodes o.0 ∙ omega (arith, nodes);
          after = w.cut.after;
          ended = record { small = small; are_filled = f; last = subst (λ us. IsNext fill_cmp (IsRest P after (demand_after here v (filled_nodes us) (asked gs))) us None) rest last };
          can = can_here front gs known cut;
        }

    -- what its move asks for
    pub record IsReady (room : ℕ) (one : Member) (d : Demand) : Type 0 where
      pub value : IsValue P here after d.used (node_count (data_of one.tree)) (data_of one.tree)
      pub rest : CanMeet P after (demand_after here (data_of one.tree) room d)
      pub can : IsOpen P (slots_from q i place) d

    pub ready : (r : Removed) (front : List Member) (one : Member) (gs : List (Option Data)) (d : Demand) → IsRemoved r front one gs → d ≡ asked gs → IsReady r.room one d
    ready r front one gs d off is =
        let f = off.ended.are_filled in
        let whole = f.whole.nodes_are in
        let left : filled_nodes f.rest ≡ r.room = omega (arith, whole, off.room_is) in
        let rest = subst (CanFill P after (ending_at q i) (filled here.bit (so_far gs))) left (can_fill P after (demand_after here (data_of one.tree) (filled_nodes f.rest) (asked gs)) f.rest f.in_slots.rest) in
        subst (IsReady r.room one) (sym is) (record { value = f.value; rest = rest; can = off.can })

    -- a move of the member
    pub walked_member : {r : Removed} (made : NextParts) (d : Demand) (front new : List Member) (one : Member) (gs : List (Option Data)) → IsRemoved r front one gs → d ≡ asked gs → AreLeft made front new
        → ((hs : List (Option Data)) (others : List Member) → AreLastAfter q i place d one others hs → AreNextMembers made P (slots_from q i place) d hs (drop d.before.count new)) → AreWalked made q i place used d.before new gs
    walked_member made d front new one gs off is left h =
        let hs = drop place gs in
        let moved = h hs off.after (subst (λ e. AreLastAfter q i place e one off.after hs) (sym is) off.ended) in
        walked_parts made d.before front new gs off.cut left (ap (λ (e : Demand). e.before) is) (subst (λ e. AreNextMembers made P (slots_from q i place) e hs (drop e.before.count new)) is moved)

    -- a key that has no later candidate: it has no next one, and no part of another size
    pub walked_key : (r : Removed) (front : List Member) (one : Member) (gs : List (Option Data)) (x : Before) → IsRemoved r front one gs → x ≡ so_far gs → here.key ≡ true → ((u : Data) → IsPart P here.site u → IsPast (Some (data_of one.tree)) u → ⊥)
        → IsWalkedTo q i place (record { room = r.room + 1; before = x }) used front gs
    walked_key r front one gs x off is key none =
        let law = key_here P here after (subst (AreKeySlots P) first (keys_at q i place sound)) key in
        let own : node_count (data_of one.tree) ≡ 1 = law.one (data_of one.tree) off.ended.are_filled.value.part in
        let empty : (n : ℕ) → node_count (data_of one.tree) + 1 ≤ n → FitsSlot P here after (asked gs) n → ⊥ = λ n more fits.
        let size : n ≡ 1 = sym fits.0.nodes_are ∙ law.one fits.0.part fits.0.is in
        omega (arith, more, size, own) in
        let all = filled_nodes (drop place gs) in
        let total : all ≡ r.room + 1 = omega (arith, off.room_is, own) in
        let moved = in_grown q i place sound first (asked gs) one off.after (drop place gs) off.ended (parts.Last all) front front (sym (so_many place gs front off.cut.front)) (λ u v past. none u v.part past) (refl, empty, refl) in
        record { cut = off.cut; room_is = total; last = moved.0; known = λ some. is }
