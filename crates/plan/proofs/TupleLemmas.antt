-- The tuples of the candidates of slots: all of them, and those that are not used.
use Rattle.std.specs.Prelude.{◌≡◌, ◌≢◌, ℕ, ◌*◌, ◌≤◌, ◌<◌, ◌↔◌, List, true, All, AllPairs, filter, map, Contains}
use Rattle.std.specs.Bool.{Decides}
use Rattle.std.specs.Cmp.{IsEquivalence, Equal-is}
use Rattle.std.specs.declared.cmp.Ordering.TheVariants.{Equal}
use Rattle.std.proofs.Common.{refl, ap, sym, ◌∙◌, subst, inl, inr, arith, [], ◌∷◌, ◌++◌, length}
use Rattle.std.specs.Cmp.Lexicographic.{pointwise}
use Rattle.std.proofs.lemmas.Bool.{and_from, and_parts}
use Rattle.std.proofs.lemmas.Bool.Decides.{Decides-like}
use Rattle.std.proofs.lemmas.Cmp.{tied_itself, eq_by_cmp_equiv, lists_equiv}
use Rattle.std.proofs.lemmas.List.{append_cancel_left, length-map}
use Rattle.std.proofs.lemmas.List.Elements.{All-contains}
use Rattle.std.proofs.lemmas.List.Kept.{AllPairs-filter}
use Rattle.std.proofs.lemmas.Slice.Eq.{slice_eq-Decides}
use Rattle.jtree.specs.Data.{Data}
use Rattle.jtree.specs.Nodes.{node_count}
use Rattle.jtree.specs.Order.{tree_cmp}
use Rattle.jtree.specs.Internal.OrderLaws.{tree_same, tree_total}
use Rattle.jtree.specs.Internal.Rising.{Among, contained, contains, rising}
use Rattle.stored.specs.Objects.Tests.{is_same}
use Rattle.plan.specs.Pools.Pools.{Pools}
use Rattle.plan.specs.Samples.Sites.{Site, Slot}
use Rattle.plan.specs.Samples.Candidates.{AreAll, HasCount, IsCandidate}
use Rattle.plan.specs.Samples.Part.{IsPart}
use Rattle.plan.specs.Samples.NoDeadEnd.{IsTuple, AreCounts, product, begins, HasFree}
use Rattle.plan.specs.Internal.Keyed.{IsApart}
use Rattle.plan.proofs.ApartLemmas.{each_before, among_each, each_among, each_length, each_apart, map_apart, map_among, among_map, among_filter, filter_among, apart_length, one_free}

-- ---- trees and tuples have decidable equality

tree_tied : (v w : Data) → v ≡ w → tree_cmp v w ≡ Equal
tree_tied v w e = subst (λ u. tree_cmp v u ≡ Equal) e (tied_itself tree_total v)

pub same_tree : (v w : Data) → Decides (is_same v w) (v ≡ w)
same_tree v w = Decides-like (is_same v w) (tree_same v w) (tree_tied v w) (Equal-is (tree_cmp v w))

pub same_tuple : (s t : List Data) → Decides (pointwise is_same s t) (s ≡ t)
same_tuple s t = slice_eq-Decides same_tree s t (pointwise is_same s t) refl

pub tuple_laws : IsEquivalence (pointwise is_same)
tuple_laws = lists_equiv (eq_by_cmp_equiv tree_total)

-- ---- all tuples

pub all_apart : (A : Data → Type 0) (vs : List Data) → AreAll A vs → IsApart vs
all_apart A vs h = rising (λ u v. u ≢ v) vs (λ i j d l m e. let before = h.ascending i j d l m in let tied = tree_tied _ _ e in cc)

pub all_same : (A B : Data → Type 0) (vs : List Data) → ((v : Data) → A v ↔ B v) → AreAll A vs → AreAll B vs
all_same A B vs same are = record { each = λ v. ((λ c. (same v).0 ((are.each v).0 c)), λ b. (are.each v).1 ((same v).1 b)); ascending = are.ascending }

-- where each part is one node, all of them are candidates
pub count_parts : (P : Pools) (limit : ℕ) (s : Site) (n : ℕ) → 1 ≤ limit → ((v : Data) → IsPart P s v → node_count v ≡ 1) → HasCount (IsCandidate P limit s) n → HasCount (IsPart P s) n
count_parts P limit s n some one h =
    record { values = h.values; are = all_same (IsCandidate P limit s) (IsPart P s) h.values (λ v. ((λ c. c.0), λ p. (p, omega (arith, one v p)))) h.are; count_is = h.count_is }

-- all tuples of the slots, each once
pub record AreTuples (P : Pools) (ss : List Slot) (ts : List (List Data)) : Type 0 where
  pub each : (t : List Data) → Among ts t ↔ IsTuple P ss t
  pub apart : IsApart ts

no_slots : (P : Pools) (t : List Data) → IsTuple P [] t → Among ([] ∷ []) t
no_slots P [] h = inl refl
no_slots P (v ∷ t) h = absurd h

one_slot : (P : Pools) (s : Slot) (ss : List Slot) (vs : List Data) (ts : List (List Data)) → AreAll (IsPart P s.site) vs → AreTuples P ss ts → (t : List Data) → IsTuple P (s ∷ ss) t → Among (each_before vs ts) t
one_slot P s ss vs ts c h [] is = absurd is
one_slot P s ss vs ts c h (v ∷ t) is = each_among vs ts v t (contained vs v ((c.each v).1 is.0)) ((h.each t).1 is.1)

pub all_tuples : (P : Pools) (ss : List Slot) (ns : List ℕ) → AreCounts P ss ns → (ts : List (List Data)) × (AreTuples P ss ts × (length ts ≡ product ns))
all_tuples P [] [] h = ([] ∷ [], (record { each = λ t. ((λ a. elim a [ inl e ↦ subst (IsTuple P []) e tt | inr n ↦ absurd n ]), no_slots P t); apart = ((λ v a. absurd a), tt) }, refl))
all_tuples P [] (n ∷ ns) h = absurd h
all_tuples P (s ∷ ss) [] h = absurd h
all_tuples P (s ∷ ss) (n ∷ ns) h =
    let vs = h.0.values in
    let r = all_tuples P ss ns h.1 in (
      each_before vs r.0,
      (
        record {
          each = λ t. (
            (λ a. let q = among_each vs r.0 t a in subst (IsTuple P (s ∷ ss)) q.1.1.2 ((h.0.are.each q.0).0 (contains vs q.0 q.1.1.0), (r.1.0.each q.1.0).0 q.1.1.1)),
            one_slot P s ss vs r.0 h.0.are r.1.0 t,
          );
          apart = each_apart vs r.0 (all_apart (IsPart P s.site) vs h.0.are) r.1.0.apart;
        },
        each_length vs r.0 ∙ ap (λ k. k * length r.0) h.0.count_is ∙ ap (λ k. n * k) r.1.1,
      ),
    )

-- ---- tuples that are not used

begins_then : (vs t : List Data) → begins vs (vs ++ t) ≡ true
begins_then [] t = refl
begins_then (v ∷ vs) t = and_from (is_same v v) (begins vs (vs ++ t)) ((same_tree v v).1 refl) (begins_then vs t)

-- what follows the values with which a tuple begins
later_of : (P : Pools) (first later : List Slot) (vs u : List Data) → IsTuple P first vs → IsTuple P (first ++ later) u → begins vs u ≡ true → (t : List Data) × (IsTuple P later t × (vs ++ t ≡ u))
later_of P [] later [] u h k b = (u, (k, refl))
later_of P [] later (v ∷ vs) u h k b = absurd h
later_of P (s ∷ first) later [] u h k b = absurd h
later_of P (s ∷ first) later (v ∷ vs) [] h k b = absurd k
later_of P (s ∷ first) later (v ∷ vs) (w ∷ u) h k b =
    let these = and_parts (is_same v w) (begins vs u) b in
    let r = later_of P first later vs u h.1 k.1 these.1 in
    let same = (same_tree v w).0 these.0 in
    (r.0, (r.1.0, cc (r.1.1)))

used_too : (used : List (List Data)) (chosen t q : List Data) → chosen ++ t ≡ q → Contains used (chosen ++ t) → Among (filter (begins chosen) used) q
used_too used chosen t q e c = subst (Among (filter (begins chosen) used)) e (filter_among (begins chosen) used (chosen ++ t) (contained used (chosen ++ t) c) (begins_then chosen t))

-- a used tuple that begins so is one of those with each possible rest
begin_among : (P : Pools) (first later : List Slot) (used : List (List Data)) (chosen : List Data) (ts : List (List Data)) → AreTuples P later ts → IsTuple P first chosen → All (IsTuple P (first ++ later)) used
    → (q : List Data) → Among (filter (begins chosen) used) q → Among (map (λ t. chosen ++ t) ts) q
begin_among P first later used chosen ts all h tuples q m =
    let p = among_filter (begins chosen) used q m in
    let t = later_of P first later chosen q h (All-contains (IsTuple P (first ++ later)) used q tuples (contains used q p.0)) p.1 in
    subst (Among (map (λ t. chosen ++ t) ts)) t.1.1 (map_among (λ t. chosen ++ t) ts t.0 ((all.each t.0).1 t.1.0))

-- the values chosen can be completed exactly where fewer of the used tuples begin with them than the later slots have tuples
pub free_tuples : (P : Pools) (first later : List Slot) (used : List (List Data)) (chosen : List Data) (counts : List ℕ) → IsTuple P first chosen → All (IsTuple P (first ++ later)) used → AllPairs (λ t u. t ≢ u) used
    → AreCounts P later counts → HasFree P later used chosen ↔ (length (filter (begins chosen) used) < product counts)
free_tuples P first later used chosen counts h tuples apart count =
    let r = all_tuples P later counts count in
    let whole : List Data → List Data = λ t. chosen ++ t in
    let cs = map whole r.0 in
    let us = filter (begins chosen) used in
    let n = length-map r.0 whole in
    let us_apart : IsApart us = rising (λ t u. t ≢ u) us (AllPairs-filter (λ t u. t ≢ u) (begins chosen) used apart) in
    let us_among = begin_among P first later used chosen r.0 r.1.0 h tuples in (
      (λ free.
          let unused = λ (v : List Data) (m : Among us v) (e : chosen ++ free.0 ≡ v). free.1.1 (contains used (chosen ++ free.0) (subst (Among used) (sym e) (among_filter (begins chosen) used v m).0)) in
          let among = λ (q : List Data) (m : Among ((chosen ++ free.0) ∷ us) q). elim m as (λ _. Among cs q) [ inl e ↦ subst (Among cs) e (map_among whole r.0 free.0 ((r.1.0.each free.0).1 free.1.0)) | inr a ↦ us_among q a ] in
          let p = apart_length same_tuple tuple_laws ((chosen ++ free.0) ∷ us) cs (unused, us_apart) among in
          omega (arith, p, n, r.1.1)),
      λ l.
          let o = one_free same_tuple tuple_laws cs us (map_apart whole r.0 (append_cancel_left chosen) r.1.0.apart) (omega (arith, n, r.1.1, l)) in
          let t = among_map whole r.0 o.0 o.1 in
          (t.0, ((r.1.0.each t.0).0 t.1.0, λ c. o.2 (used_too used chosen t.0 o.0 t.1.1 c))),
    )

all_begin : (used : List (List Data)) → filter (begins []) used ≡ used
all_begin [] = refl
all_begin (t ∷ ts) = ap (λ us. t ∷ us) (all_begin ts)

-- some tuple is not used exactly where fewer are used than there are
pub some_free : (P : Pools) (ss : List Slot) (used : List (List Data)) (counts : List ℕ) → All (IsTuple P ss) used → AllPairs (λ t u. t ≢ u) used → AreCounts P ss counts → HasFree P ss used [] ↔ (length used < product counts)
some_free P ss used counts tuples apart count = subst (λ us. HasFree P ss used [] ↔ (length us < product counts)) (all_begin used) (free_tuples P [] ss used [] counts tt tuples apart count)
