-- Lists in order, each element once.
use Rattle.std.proofs.Common.{◌≡◌, ◌∙◌, ◌↔◌, ℕ, List, [], ◌∷◌, ◌++◌, Bool, true, false, map, refl, ap, sym, subst, inl, inr}
use Rattle.std.specs.Cmp.{IsTotalOrder}
use Rattle.std.specs.List.{dedup, dedup_from}
use Rattle.std.specs.Ordering.{on}
use Rattle.std.specs.declared.cmp.Ordering.{Ordering}
use Rattle.std.specs.declared.cmp.Ordering.TheVariants.{Less, Equal}
use Rattle.std.proofs.lemmas.Cmp.{nat_list_cmp_total, tied_itself}
use Rattle.std.proofs.lemmas.Map.Lookups.{exact_bytes}
use Rattle.jtree.specs.Internal.Rising.{Among, Rising, contains, contained, rising, all_pairs}
use Rattle.jtree.specs.Internal.OrderLaws.{tree_same}
use Rattle.jtree.specs.Data.{Data, null, boolean}
use Rattle.jtree.specs.Internal.Lookups.{bool_cases}
use Rattle.jtree.specs.Order.{text_cmp, tree_cmp}
use Rattle.jtree.specs.View.{data_of, tree_from}
use Rattle.jtree.specs.declared.value.Tree.{Tree}
use Rattle.jtree.specs.declared.value.Tree.TheVariants as tree
use Rattle.plan.specs.Samples.Leasts.{same_number, leasts}
use Rattle.plan.specs.Samples.Names.{in_order}
use Rattle.plan.specs.Internal.Values.{trees_of, IsInOrder, IsBase}
use Rattle.plan.proofs.LeastLemmas.{least_same, least_beside, deduped, deduped_rises}
use Rattle.plan.proofs.NameLemmas.{in_order_rising, in_order_has, in_order_only}

-- ---- mapped lists

map_among : {X Y : Type 0} (f : X → Y) (xs : List X) (x : X) → Among xs x → Among (map f xs) (f x)
map_among f [] x a = absurd a
map_among f (z ∷ xs) x (inl e) = inl (ap f e)
map_among f (z ∷ xs) x (inr a) = inr (map_among f xs x a)

among_map : {X Y : Type 0} (f : X → Y) (xs : List X) (y : Y) → Among (map f xs) y → (x : X) × (Among xs x × (f x ≡ y))
among_map f [] y a = absurd a
among_map f (x ∷ xs) y (inl e) = (x, (inl refl, e))
among_map f (x ∷ xs) y (inr a) = let r = among_map f xs y a in (r.0, (inr r.1.0, r.1.1))

among_both : {X Y : Type 0} (f : X → Y) (xs ys : List X) → ((x : X) → Among xs x → Among ys x) → (y : Y) → Among (map f xs) y → Among (map f ys) y
among_both f xs ys h y a = let r = among_map f xs y a in subst (Among (map f ys)) r.1.1 (map_among f ys r.0 (h r.0 r.1.0))

rising_map : {X Y : Type 0} (f : X → Y) (R : Y → Y → Type 0) (xs : List X) → Rising (λ x y. R (f x) (f y)) xs → Rising R (map f xs)
rising_map f R [] h = tt
rising_map f R (x ∷ xs) h = ((λ y a. let r = among_map f xs y a in subst (R (f x)) r.1.1 (h.0 r.0 r.1.0)), rising_map f R xs h.1)

pub in_order_by : {X Y : Type 0} (f : X → Y) (cmp : Y → Y → Ordering) (xs ys : List X) → IsInOrder (on f cmp) xs ys → IsInOrder cmp (map f xs) (map f ys)
in_order_by f cmp xs ys h = record {
  each = λ y. (
    (λ c. contains (map f xs) y (among_both f ys xs (λ x a. contained xs x ((h.each x).0 (contains ys x a))) y (contained (map f ys) y c))),
    λ c. contains (map f ys) y (among_both f xs ys (λ x a. contained ys x ((h.each x).1 (contains xs x a))) y (contained (map f xs) y c)),
  );
  ascending = all_pairs (λ x y. cmp x y ≡ Less) (map f ys) (rising_map f (λ x y. cmp x y ≡ Less) ys (rising (λ x y. cmp (f x) (f y) ≡ Less) ys h.ascending));
}

-- ---- trees

tree_back : (t : Tree) → tree_from (data_of t) ≡ t
tree_back tree.Null = refl
tree_back (tree.Bool b) = refl
tree_back (tree.Int z) = refl
tree_back (tree.Number s) = refl
tree_back (tree.Text s) = refl
tree_back (tree.List ds) = refl
tree_back (tree.Object ms) = refl

same_tree : (t u : Tree) → tree_cmp (data_of t) (data_of u) ≡ Equal → t ≡ u
same_tree t u e = sym (tree_back t) ∙ (ap tree_from (tree_same (data_of t) (data_of u) e) ∙ tree_back u)

-- trees put in order are a base of those that they were
pub base_from : (ds : List Data) (ts us : List Tree) → trees_of ts ≡ ds → (((t u : Tree) → tree_cmp (data_of t) (data_of u) ≡ Equal → t ≡ u) → IsInOrder (on data_of tree_cmp) ts us) → IsBase ds us
base_from ds ts us e h = subst (λ ds. IsBase ds us) e (in_order_by (λ t. data_of t) tree_cmp ts us (h same_tree))

-- of neighbours of one value the first alone
abbrev one_number : Tree → Tree → Bool
one_number t u = same_number (data_of t) (data_of u)

deduped_from : (k : Tree) (ts : List Tree) → trees_of (dedup_from one_number k ts) ≡ dedup_from same_number (data_of k) (trees_of ts)
deduped_from k [] = refl
deduped_from k (t ∷ ts) = elim (bool_cases (same_number (data_of t) (data_of k))) [
  | inl same ↦ rw same (deduped_from k ts)
  | inr other ↦ rw other (ap (λ ds. data_of k ∷ ds) (deduped_from t ts))
]

deduped_trees : (ts : List Tree) → trees_of (dedup one_number ts) ≡ dedup same_number (trees_of ts)
deduped_trees [] = refl
deduped_trees (t ∷ ts) = deduped_from t ts

pub base_deduped : (ds : List Data) (ts us : List Tree) → us ≡ dedup one_number ts → IsBase ds ts → IsBase (leasts ds) us
base_deduped ds ts us is b =
    let up = rising (λ u v. tree_cmp u v ≡ Less) (trees_of ts) b.ascending in
    let are : trees_of us ≡ dedup same_number (trees_of ts) = ap trees_of is ∙ deduped_trees ts in
    let same : (v : Data) → Among (trees_of ts) v ↔ Among ds v = λ v.
    ((λ a. contained ds v ((b.each v).0 (contains (trees_of ts) v a))), λ a. contained (trees_of ts) v ((b.each v).1 (contains ds v a))) in
    rw are (record {
      each = λ v. (
        (λ c. contains (leasts ds) v (least_same (trees_of ts) ds same v ((deduped (trees_of ts) up v).0 (contained (dedup same_number (trees_of ts)) v c)))),
        λ c. contains (dedup same_number (trees_of ts)) v
            ((deduped (trees_of ts) up v).1 (least_same ds (trees_of ts) (λ v. ((same v).1, (same v).0)) v (contained (leasts ds) v c))),
      );
      ascending = all_pairs (λ u v. tree_cmp u v ≡ Less) (dedup same_number (trees_of ts)) (deduped_rises (trees_of ts) up);
    })

-- null stays beside the least ones
pub null_beside : (ds : List Data) (ts : List Tree) → IsBase (leasts (null ∷ ds)) ts → IsBase (null ∷ leasts ds) ts
null_beside ds ts b = record {
  each = λ v.
      let s = least_beside null ds refl v in (
        (λ c. contains (null ∷ leasts ds) v (s.0 (contained (leasts (null ∷ ds)) v ((b.each v).0 c)))),
        λ c. (b.each v).1 (contains (leasts (null ∷ ds)) v (s.1 (contained (null ∷ leasts ds) v c))),
      );
  ascending = b.ascending;
}

-- what is added one after the other is one list
pub scalars_joined : (bs : List Tree) (is ts : List Data) → (trees_of ((bs ++ tree.Bool false ∷ []) ++ tree.Bool true ∷ []) ++ is) ++ ts ≡ trees_of bs ++ (boolean false ∷ boolean true ∷ is ++ ts)
scalars_joined [] is ts = refl
scalars_joined (b ∷ bs) is ts = ap (λ ds. data_of b ∷ ds) (scalars_joined bs is ts)

-- ---- lists with the same elements, both in order

not_same : {X : Type 0} {R : X → X → Ordering} → IsTotalOrder R → (x y : X) → R x y ≡ Less → x ≡ y → ⊥
not_same {R = R} o x y less same = let tied = tied_itself o y in let before : R y y ≡ Less = rw same at less in cc

pub same_in_order : {X : Type 0} {R : X → X → Ordering} → IsTotalOrder R → (xs ys : List X) → Rising (λ x y. R x y ≡ Less) xs → Rising (λ x y. R x y ≡ Less) ys
    → ((v : X) → Among xs v → Among ys v) → ((v : X) → Among ys v → Among xs v) → xs ≡ ys
same_in_order o [] [] p q to from = refl
same_in_order o [] (y ∷ ys) p q to from = absurd (from y (inl refl))
same_in_order o (x ∷ xs) [] p q to from = absurd (to x (inl refl))
same_in_order o (x ∷ xs) (y ∷ ys) p q to from =
    let first : x ≡ y = elim (to x (inl refl)) [
      | inl e ↦ sym e
      | inr b ↦ elim (from y (inl refl)) [ inl e ↦ e | inr a ↦ absurd (not_same o x x (o.trans x y x (p.0 y a) (q.0 x b)) refl) ]
    ] in
    let rest : xs ≡ ys = same_in_order o xs ys p.1 q.1
    (λ v a. elim (to v (inr a)) [ inl e ↦ absurd (not_same o x v (p.0 v a) (first ∙ e)) | inr b ↦ b ])
    (λ v b. elim (from v (inr b)) [ inl e ↦ absurd (not_same o y v (q.0 v b) (sym first ∙ e)) | inr a ↦ a ]) in
    λ i. first i ∷ rest i

-- names put in order
pub names_from : (ks ls ms : List (List ℕ)) → ls ≡ ks → (((k l : List ℕ) → text_cmp k l ≡ Equal → k ≡ l) → IsInOrder text_cmp ls ms) → ms ≡ in_order ks
names_from ks ls ms e h =
    let o = subst (λ ls. IsInOrder text_cmp ls ms) e (h (λ k l. exact_bytes k l)) in
    same_in_order nat_list_cmp_total ms (in_order ks) (rising (λ k l. text_cmp k l ≡ Less) ms o.ascending) (in_order_rising ks)
    (λ k a. in_order_has ks k (contained ks k ((o.each k).0 (contains ms k a))))
    (λ k a. contained ms k ((o.each k).1 (contains ks k (in_order_only ks k a))))
