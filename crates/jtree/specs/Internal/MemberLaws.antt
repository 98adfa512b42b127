-- The laws of members that are put in or taken off by their names.
use Rattle.std.proofs.Common.{◌≡◌, ℕ, zero, suc, List, [], ◌∷◌, true, false, Option, Some, None, refl, sym, ap, ◌∙◌, subst, inl, inr, get_or, set}
use Rattle.std.specs.Prelude.{IfSome}
use Rattle.std.specs.List.{insert, remove}
use Rattle.std.specs.Ordering.{ordering_reverse}
use Rattle.std.specs.Str.{bytes_eq}
use Rattle.std.specs.declared.cmp.Ordering.TheVariants.{Less, Greater}
use Rattle.std.proofs.lemmas.Cmp.{nat_list_cmp_total}
use Rattle.std.proofs.lemmas.Map.Lookups.{exact_bytes}
use Rattle.jtree.specs.Data.{Data, Members, no_members, member, IsNameBefore, AreMembers, IsTree}
use Rattle.jtree.specs.MemberPlace.{IsPlace, with_member, without_member, changed_at}
use Rattle.jtree.specs.Order.{text_cmp}
use Rattle.jtree.specs.Path.{member_at}
use Rattle.jtree.specs.View.{data_of, members_of}
use Rattle.jtree.specs.Internal.Lookups.{bool_cases, ordering_cases, own_name, same_name, member_first, member_later, before_none, IsNameBefore-trans, past_name}
use Rattle.jtree.specs.declared.value.Member.{Member}

pub before_of : (k l : List ℕ) → text_cmp k l ≡ Greater → text_cmp l k ≡ Less
before_of k l past = nat_list_cmp_total.antisymm l k ∙ ap ordering_reverse past

same_later : (j l : List ℕ) (d : Data) (ms ns : Members) → member_at j ms ≡ member_at j ns → member_at j (member l d ms) ≡ member_at j (member l d ns)
same_later j l d ms ns e = elim (bool_cases (bytes_eq j l)) [ inl t ↦ rw t refl | inr f ↦ rw f e ]

-- ---- at the place of a name

pub written : (m : Member) (xs : List Member) (i : ℕ) → IsPlace true m.name xs i → members_of (set xs i m) ≡ with_member m.name (data_of m.tree) (members_of xs)
written m [] i p = let e = p.0 in cc
written m (x ∷ xs) zero p = rw p refl
written m (x ∷ xs) (suc i) p = rw p.0 (ap (member x.name (data_of x.tree)) (written m xs i p.1))

pub inserted : (m : Member) (xs : List Member) (i : ℕ) → IsPlace false m.name xs i → members_of (insert xs i m) ≡ with_member m.name (data_of m.tree) (members_of xs)
inserted m [] zero p = refl
inserted m [] (suc i) p = let e = p.1 in cc
inserted m (x ∷ xs) zero p = rw p refl
inserted m (x ∷ xs) (suc i) p = rw p.0 (ap (member x.name (data_of x.tree)) (inserted m xs i p.1))

pub removed : (k : List ℕ) (xs : List Member) (i : ℕ) → IsPlace true k xs i → members_of (remove xs i) ≡ without_member k (members_of xs)
removed k [] i p = let e = p.0 in cc
removed k (x ∷ xs) zero p = rw p refl
removed k (x ∷ xs) (suc i) p = rw p.0 (ap (member x.name (data_of x.tree)) (removed k xs i p.1))

pub absent : (k : List ℕ) (xs : List Member) (i : ℕ) → IsPlace false k xs i → without_member k (members_of xs) ≡ members_of xs
absent k [] i p = refl
absent k (x ∷ xs) zero p = rw p refl
absent k (x ∷ xs) (suc i) p = rw p.0 (ap (member x.name (data_of x.tree)) (absent k xs i p.1))

-- what is there
pub there : (k : List ℕ) (xs : List Member) (i : ℕ) (x : Member) → IsPlace true k xs i → x ≡ get_or xs i x → member_at k (members_of xs) ≡ Some (data_of x.tree)
there k [] i x p is = let e = p.0 in absurd (cc)
there k (y ∷ xs) zero x p is = rw (exact_bytes k y.name p, own_name y.name, is) refl
there k (y ∷ xs) (suc i) x p is = rw (past_name k y.name p.0) (there k xs i x p.1 is)

pub nowhere : (k : List ℕ) (xs : List Member) (i : ℕ) → AreMembers (members_of xs) → IsPlace false k xs i → member_at k (members_of xs) ≡ None
nowhere k [] i o p = refl
nowhere k (x ∷ xs) zero o p = before_none k (members_of (x ∷ xs)) p o
nowhere k (x ∷ xs) (suc i) o p = rw (past_name k x.name p.0) (nowhere k xs i o.2 p.1)

-- ---- lookups after it

-- a member that is put where it belongs is found as one that is put in front
pub with_member_at : (k : List ℕ) (d : Data) (ms : Members) (j : List ℕ) → member_at j (with_member k d ms) ≡ member_at j (member k d ms)
with_member_at k d no_members j = refl
with_member_at k d (member l e ms) j = elim (ordering_cases (text_cmp k l)) [
  | inl less ↦ rw less refl
  | inr (inl same) ↦ elim (bool_cases (bytes_eq j k)) [
    | inl here ↦ rw (same, here) refl
    | inr other ↦ let past : bytes_eq j l ≡ false = subst (λ n. bytes_eq j n ≡ false) (exact_bytes k l same) other in rw (same, other, past) refl
  ]
  | inr (inr greater) ↦ elim (bool_cases (bytes_eq j k)) [
    | inl here ↦
        let past : bytes_eq j l ≡ false = subst (λ n. bytes_eq n l ≡ false) (sym (same_name j k here)) (past_name k l greater) in
        rw (greater, past) (with_member_at k d ms j ∙ rw here refl)
    | inr other ↦
        let rest : member_at j (with_member k d ms) ≡ member_at j ms = with_member_at k d ms j ∙ rw other refl in
        rw (greater, other) (same_later j l e (with_member k d ms) ms rest)
  ]
]

pub changed_here : (k : List ℕ) (o : Option Data) (ms : Members) → AreMembers ms → member_at k (changed_at k o ms) ≡ o
changed_here k (Some e) ms sorted = with_member_at k e ms k ∙ member_first k e ms
changed_here k None no_members sorted = refl
changed_here k None (member l d ms) sorted = elim (ordering_cases (text_cmp k l)) [
  | inl before ↦ rw before (before_none k (member l d ms) before sorted)
  | inr (inl same) ↦ rw same (let is = exact_bytes k l same in before_none k ms (subst (λ n. IsNameBefore n ms) (sym is) sorted.1) sorted.2)
  | inr (inr past) ↦ rw past (member_later k l d (without_member k ms) (past_name k l past) ∙ changed_here k None ms sorted.2)
]

pub changed_elsewhere : (j k : List ℕ) (o : Option Data) (ms : Members) → bytes_eq j k ≡ false → member_at j (changed_at k o ms) ≡ member_at j ms
changed_elsewhere j k (Some e) ms other = with_member_at k e ms j ∙ member_later j k e ms other
changed_elsewhere j k None no_members other = refl
changed_elsewhere j k None (member l d ms) other = elim (ordering_cases (text_cmp k l)) [
  | inl before ↦ rw before refl
  | inr (inl same) ↦ rw same (sym (member_later j l d ms (subst (λ n. bytes_eq j n ≡ false) (exact_bytes k l same) other)))
  | inr (inr past) ↦ rw past (same_later j l d (without_member k ms) ms (changed_elsewhere j k None ms other))
]

-- ---- they stay in order

changed_before : (j k : List ℕ) (o : Option Data) (ms : Members) → text_cmp j k ≡ Less → IsNameBefore j ms → AreMembers ms → IsNameBefore j (changed_at k o ms)
changed_before j k None no_members jk before sorted = tt
changed_before j k (Some e) no_members jk before sorted = jk
changed_before j k None (member l d ms) jk before sorted = elim (ordering_cases (text_cmp k l)) [
  | inl first ↦ rw first before
  | inr (inl same) ↦ rw same (IsNameBefore-trans j l ms before sorted.1)
  | inr (inr past) ↦ rw past before
]
changed_before j k (Some e) (member l d ms) jk before sorted = elim (ordering_cases (text_cmp k l)) [
  | inl first ↦ rw first jk
  | inr (inl same) ↦ rw same jk
  | inr (inr past) ↦ rw past before
]

pub changed_sorted : (k : List ℕ) (o : Option Data) (ms : Members) → IfSome o IsTree → AreMembers ms → AreMembers (changed_at k o ms)
changed_sorted k None no_members t sorted = tt
changed_sorted k (Some e) no_members t sorted = (t, tt, tt)
changed_sorted k None (member l d ms) t sorted = elim (ordering_cases (text_cmp k l)) [
  | inl first ↦ rw first sorted
  | inr (inl same) ↦ rw same sorted.2
  | inr (inr past) ↦ rw past (sorted.0, changed_before l k None ms (before_of k l past) sorted.1 sorted.2, changed_sorted k None ms t sorted.2)
]
changed_sorted k (Some e) (member l d ms) t sorted = elim (ordering_cases (text_cmp k l)) [
  | inl first ↦ rw first (t, first, sorted)
  | inr (inl same) ↦ rw same (t, subst (λ n. IsNameBefore n ms) (sym (exact_bytes k l same)) sorted.1, sorted.2)
  | inr (inr past) ↦ rw past (sorted.0, changed_before l k (Some e) ms (before_of k l past) sorted.1 sorted.2, changed_sorted k (Some e) ms t sorted.2)
]
