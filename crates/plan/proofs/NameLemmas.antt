-- Names put in order are the same names, in the order of their bytes.
use Rattle.std.proofs.Common.{◌≡◌, ◌≢◌, ◌⊎◌, ◌≤◌, ℕ, List, [], ◌∷◌, length, refl, sym, inl, inr}
use Rattle.std.specs.declared.cmp.Ordering.TheVariants.{Less, Greater}
use Rattle.std.proofs.lemmas.Cmp.{nat_list_cmp_total}
use Rattle.std.proofs.lemmas.Map.Lookups.{exact_bytes}
use Rattle.jtree.specs.Order.{text_cmp}
use Rattle.jtree.specs.Internal.Lookups.{ordering_cases, not_itself}
use Rattle.jtree.specs.Internal.Rising.{Among, Rising, contains, each_of, all_pairs}
use Rattle.schema.specs.Nodes.Node.{Fields, Validations}
use Rattle.schema.specs.Nodes.Junctors.{names_in, most_named, AreSoundJunctors}
use Rattle.plan.specs.Samples.Names.{with_name, in_order}
use Rattle.plan.specs.Samples.Presence.{named}

abbrev pub AreNamesInOrder : List (List ℕ) → Type 0
AreNamesInOrder ks = Rising (λ k l. text_cmp k l ≡ Less) ks

-- putting in a name: it is there then, with the others, and the order is kept
put_new : (k : List ℕ) (ls : List (List ℕ)) → Among (with_name k ls) k
put_new k [] = inl refl
put_new k (l ∷ ls) = elim (ordering_cases (text_cmp k l)) [
  | inl less ↦ rw less (inl refl)
  | inr (inl same) ↦ rw same (inl (sym (exact_bytes k l same)))
  | inr (inr past) ↦ rw past (inr (put_new k ls))
]

put_old : (k : List ℕ) (ls : List (List ℕ)) (m : List ℕ) → Among ls m → Among (with_name k ls) m
put_old k [] m a = absurd a
put_old k (l ∷ ls) m a = elim (ordering_cases (text_cmp k l)) [
  | inl less ↦ rw less (inr a)
  | inr (inl same) ↦ rw same a
  | inr (inr past) ↦ rw past (elim a as (λ _. (l ≡ m) ⊎ Among (with_name k ls) m) [ inl e ↦ inl e | inr b ↦ inr (put_old k ls m b) ])
]

put_only : (k : List ℕ) (ls : List (List ℕ)) (m : List ℕ) → Among (with_name k ls) m → (k ≡ m) ⊎ Among ls m
put_only k [] m a = elim a [ inl e ↦ inl e | inr n ↦ absurd n ]
put_only k (l ∷ ls) m a = elim (ordering_cases (text_cmp k l)) [
  | inl less ↦ rw less at a
  | inr (inl same) ↦ inr (rw same at a)
  | inr (inr past) ↦
      let b : (l ≡ m) ⊎ Among (with_name k ls) m = rw past at a in
      elim b as (λ _. (k ≡ m) ⊎ ((l ≡ m) ⊎ Among ls m)) [
        | inl e ↦ inr (inl e)
        | inr c ↦ elim (put_only k ls m c) as (λ _. (k ≡ m) ⊎ ((l ≡ m) ⊎ Among ls m)) [ inl e ↦ inl e | inr d ↦ inr (inr d) ]
      ]
]

turned : (k l : List ℕ) → text_cmp k l ≡ Greater → text_cmp l k ≡ Less
turned k l past = let t = nat_list_cmp_total.antisymm l k in rw past at t

put_in_order : (k : List ℕ) (ls : List (List ℕ)) → AreNamesInOrder ls → AreNamesInOrder (with_name k ls)
put_in_order k [] o = ((λ v a. absurd a), tt)
put_in_order k (l ∷ ls) o = elim (ordering_cases (text_cmp k l)) [
  | inl less ↦ rw less ((λ v a. elim a as (λ _. text_cmp k v ≡ Less) [ inl e ↦ rw e at less | inr b ↦ nat_list_cmp_total.trans k l v less (o.0 v b) ]), o)
  | inr (inl same) ↦ rw same o
  | inr (inr past) ↦ rw past ((λ v a. elim (put_only k ls v a) as (λ _. text_cmp l v ≡ Less) [ inl e ↦ rw e at (turned k l past) | inr b ↦ o.0 v b ]), put_in_order k ls o.1)
]

pub in_order_rising : (ks : List (List ℕ)) → AreNamesInOrder (in_order ks)
in_order_rising [] = tt
in_order_rising (k ∷ ks) = put_in_order k (in_order ks) (in_order_rising ks)

pub in_order_has : (ks : List (List ℕ)) (m : List ℕ) → Among ks m → Among (in_order ks) m
in_order_has [] m a = absurd a
in_order_has (k ∷ ks) m (inl e) = rw (← e) (put_new k (in_order ks))
in_order_has (k ∷ ks) m (inr a) = put_old k (in_order ks) m (in_order_has ks m a)

pub in_order_only : (ks : List (List ℕ)) (m : List ℕ) → Among (in_order ks) m → Among ks m
in_order_only [] m a = a
in_order_only (k ∷ ks) m a = elim (put_only k (in_order ks) m a) as (λ _. (k ≡ m) ⊎ Among ks m) [ inl e ↦ inl e | inr b ↦ inr (in_order_only ks m b) ]

names_apart : (ks : List (List ℕ)) → AreNamesInOrder ks → Rising (λ k l. k ≢ l) ks
names_apart [] o = tt
names_apart (k ∷ ks) o = ((λ l a same. not_itself k l same (o.0 l a)), names_apart ks o.1)

-- the rules of the schema let through few
pub few_named : (fs : Fields) (cs : Validations) → AreSoundJunctors fs cs → length (named cs) ≤ most_named
few_named fs cs h =
    let ks = named cs in
    h.few ks (all_pairs (λ k l. k ≢ l) ks (names_apart ks (in_order_rising (names_in cs)))) (each_of _ ks (λ k a. contains (names_in cs) k (in_order_only (names_in cs) k a)))
