-- The least of some, and the next one: by size, and of pairs of a part and a rest, in the order of parts and then of rests.
use Rattle.std.proofs.Common.{◌≡◌, ◌⊎◌, ◌<◌, ◌≤◌, ◌+◌, ℕ, Option, Some, None, true, refl, sym, ap, ◌∙◌, subst, inl, inr, arith}
use Rattle.std.specs.Cmp.{nat_cmp_is, Equal-is}
use Rattle.std.specs.Ordering.{nat_cmp, ordering_then}
use Rattle.std.specs.declared.cmp.Ordering.{Ordering}
use Rattle.std.specs.declared.cmp.Ordering.TheVariants.{Less, Equal, Greater}
use Rattle.std.proofs.lemmas.Bool.{cases_lt}
use Rattle.std.proofs.lemmas.Cmp.{tied_itself}
use Rattle.std.proofs.Math.Nat.{eq-or-lt_of_le}
use Rattle.jtree.specs.Data.{Data}
use Rattle.jtree.specs.Nodes.{node_count, nodes, most_nodes}
use Rattle.jtree.specs.Order.{tree_cmp}
use Rattle.jtree.specs.Internal.OrderLaws.{tree_total, tree_same}
use Rattle.stored.specs.Objects.Tests.{is_same}
use Rattle.plan.specs.Sets.{IsLeastFrom, IsEmptyFrom}
use Rattle.enumerate.specs.Least.{IsLeast, IsNext}
use Rattle.enumerate.specs.Internal.Rows.{option_cmp}

-- ---- comparisons

pub then_less : (a b : Ordering) → ordering_then a b ≡ Less → (a ≡ Less) ⊎ ((a ≡ Equal) × (b ≡ Less))
then_less Less b p = inl refl
then_less Equal b p = inr (refl, p)
then_less Greater b p = inl p

-- a comparison in which only the same are tied
pub record IsOrder {A : Type 0} (cmp : A → A → Ordering) : Type 0 where
  pub own : (u : A) → cmp u u ≡ Equal
  pub turned : (u v : A) → cmp u v ≡ Less → cmp v u ≡ Less → ⊥
  pub same : (u v : A) → cmp u v ≡ Equal → u ≡ v

pub tree_turned : (u v : Data) → tree_cmp u v ≡ Less → tree_cmp v u ≡ Less → ⊥
tree_turned u v p q = let h = tree_total.antisymm v u in let turned = rw p at h in cc

pub tree_order : IsOrder tree_cmp
tree_order = record { own = tied_itself tree_total; turned = tree_turned; same = tree_same }

pub same_tree : (u v : Data) → is_same u v ≡ true → u ≡ v
same_tree u v e = tree_same u v ((Equal-is (tree_cmp u v)).0 e)

pub own_tree : (v : Data) → is_same v v ≡ true
own_tree v = (Equal-is (tree_cmp v v)).1 (tree_order.own v)

option_own : (o : Option Data) → option_cmp o o ≡ Equal
option_own None = refl
option_own (Some v) = tree_order.own v

option_turned : (o p : Option Data) → option_cmp o p ≡ Less → option_cmp p o ≡ Less → ⊥
option_turned None None p q = cc
option_turned None (Some v) p q = cc
option_turned (Some u) None p q = cc
option_turned (Some u) (Some v) p q = tree_turned u v p q

option_same : (o p : Option Data) → option_cmp o p ≡ Equal → o ≡ p
option_same None None e = refl
option_same None (Some v) e = cc
option_same (Some u) None e = cc
option_same (Some u) (Some v) e = ap Some (tree_same u v e)

pub option_order : IsOrder option_cmp
option_order = record { own = option_own; turned = option_turned; same = option_same }

pub not_itself : {A : Type 0} (cmp : A → A → Ordering) → IsOrder cmp → (u v : A) → u ≡ v → cmp u v ≡ Less → ⊥
not_itself cmp o u v e p = let t = o.own v in let less = subst (λ x. cmp x v ≡ Less) e p in cc

-- ---- the same of what is said in other words

pub least_same : {A : Type 0} (cmp : A → A → Ordering) (C D : A → Type 0) (v : A) → ((u : A) → C u → D u) → ((u : A) → D u → C u) → IsLeast cmp C v → IsLeast cmp D v
least_same cmp C D v there back h = record { is = there v h.is; least = λ u d. h.least u (back u d) }

pub next_same : {A : Type 0} (cmp : A → A → Ordering) (C D : A → Type 0) (old : A) (next : Option A) → ((u : A) → C u → D u) → ((u : A) → D u → C u) → IsNext cmp C old next → IsNext cmp D old next
next_same cmp C D old (Some new) there back h = record { is = (there new h.is.0, h.is.1); least = λ u d. h.least u (back u d.0, d.1) }
next_same cmp C D old None there back h = λ u d. h u (back u d)

-- ---- by size

pub by_nodes : (u v : Data) → nodes u < nodes v → tree_cmp u v ≡ Less
by_nodes u v h =
    let e : nat_cmp (nodes u) (nodes v) ≡ Less = sym (nat_cmp_is (nodes u) (nodes v) Less h) in
    rw e refl

pub fewer_nodes : (u v : Data) → node_count u < node_count v → node_count v ≤ most_nodes → tree_cmp u v ≡ Less
fewer_nodes u v h k = by_nodes u v (omega arith)

not_fewer : (u v : Data) → tree_cmp u v ≡ Less → node_count u ≤ most_nodes → node_count u ≤ node_count v
not_fewer u v p k = elim (cases_lt (node_count v) (node_count u)) [
  | inl lt ↦ absurd (tree_turned u v p (fewer_nodes v u lt k))
  | inr le ↦ le
]

-- parts of each size, and the sizes that fit
module _ (C : ℕ → Data → Type 0) (F : ℕ → Type 0) (count : (n : ℕ) (v : Data) → C n v → node_count v ≡ n) (small : (n : ℕ) → F n → n ≤ most_nodes) where
  abbrev pub Fits : Data → Type 0
  Fits v = F (node_count v) × C (node_count v) v

  fits : (n : ℕ) (v : Data) → F n → C n v → Fits v
  fits n v f c = subst (λ m. F m × C m v) (sym (count n v c)) (f, c)

  pub least_from : (from n : ℕ) (v : Data) → IsLeastFrom F from n → IsLeast tree_cmp (C n) v → (u : Data) → Fits u → from ≤ node_count u → tree_cmp u v ≡ Less → ⊥
  least_from from n v size first u f on less =
      let nodes_are = count n v first.is in
      elim (cases_lt (node_count u) n) [
        | inl lt ↦ size.2 (node_count u) on lt f.0
        | inr ge ↦ elim (eq-or-lt_of_le ge) [
          | inl same ↦ first.least u (subst (λ m. C m u) (sym same) f.1) less
          | inr more ↦ tree_turned u v less (fewer_nodes v u (omega (arith, nodes_are, more)) (small (node_count u) f.0))
        ]
      ]

  -- the first of the least size
  pub first_by_size : (n : ℕ) (v : Data) → IsLeastFrom F 0 n → IsLeast tree_cmp (C n) v → IsLeast tree_cmp Fits v
  first_by_size n v size first = record { is = fits n v size.1 first.is; least = λ u f. least_from 0 n v size first u f (omega arith) }

  -- the next one of the same size
  pub next_of_size : (old v : Data) → Fits old → IsNext tree_cmp (C (node_count old)) old (Some v) → IsNext tree_cmp Fits old (Some v)
  next_of_size old v f h =
      let nodes_are = count (node_count old) v h.is.0 in
      record {
        is = (fits (node_count old) v f.0 h.is.0, h.is.1);
        least = λ u past less.
            let above = not_fewer old u past.1 (small (node_count old) f.0) in
            elim (eq-or-lt_of_le above) [
              | inl same ↦ h.least u (subst (λ m. C m u) (sym same) past.0.1, past.1) less
              | inr more ↦ tree_turned u v less (fewer_nodes v u (omega (arith, nodes_are, more)) (small (node_count u) past.0.0))
            ];
      }

  -- what is past the last one of a size has more nodes
  pub more_nodes : (old : Data) → Fits old → IsNext tree_cmp (C (node_count old)) old None → (u : Data) → Fits u → tree_cmp old u ≡ Less → node_count old + 1 ≤ node_count u
  more_nodes old f last u g past = elim (eq-or-lt_of_le (not_fewer old u past (small (node_count old) f.0))) [
    | inl same ↦ absurd (last u (subst (λ m. C m u) (sym same) g.1) past)
    | inr more ↦ omega (arith, more)
  ]

  -- the first one of the next size, where this one has no more
  pub next_size : (old : Data) (n : ℕ) (v : Data) → Fits old → IsNext tree_cmp (C (node_count old)) old None → IsLeastFrom F (node_count old + 1) n → IsLeast tree_cmp (C n) v → IsNext tree_cmp Fits old (Some v)
  next_size old n v f last size first =
      let nodes_are = count n v first.is in
      let up = size.0 in
      let few = small n size.1 in
      record {
        is = (fits n v size.1 first.is, fewer_nodes old v (omega (arith, nodes_are, up)) (omega (arith, nodes_are, few)));
        least = λ u past. least_from (node_count old + 1) n v size first u past.0 (more_nodes old f last u past.0 past.1);
      }

  pub no_next_size : (old : Data) → Fits old → IsNext tree_cmp (C (node_count old)) old None → IsEmptyFrom F (node_count old + 1) → IsNext tree_cmp Fits old None
  no_next_size old f last none u g past = none (node_count u) (more_nodes old f last u g past) g.0

-- ---- what may be left out

abbrev pub OutOrIn : Type 0 → (Data → Type 0) → Option Data → Type 0
OutOrIn Out In None = Out
OutOrIn Out In (Some v) = In v

abbrev pub in_slot : Option Data → Option (Option Data)
in_slot None = None
in_slot (Some v) = Some (Some v)

module _ (Out : Type 0) (In : Data → Type 0) where
  out_first : (o : Option Data) → OutOrIn Out In o → option_cmp o None ≡ Less → ⊥
  out_first None c less = cc
  out_first (Some u) c less = cc

  pub left_out : Out → IsLeast option_cmp (OutOrIn Out In) None
  left_out out = record { is = out; least = out_first }

  in_first : (Out → ⊥) → (v : Data) → IsLeast tree_cmp In v → (o : Option Data) → OutOrIn Out In o → option_cmp o (Some v) ≡ Less → ⊥
  in_first stays v h None c less = stays c
  in_first stays v h (Some u) c less = h.least u c less

  pub first_in : (Out → ⊥) → (v : Data) → IsLeast tree_cmp In v → IsLeast option_cmp (OutOrIn Out In) (Some v)
  first_in stays v h = record { is = h.is; least = in_first stays v h }

  past_in : (old v : Data) → IsNext tree_cmp In old (Some v) → (o : Option Data) → OutOrIn Out In o × (option_cmp (Some old) o ≡ Less) → option_cmp o (Some v) ≡ Less → ⊥
  past_in old v h None c less = let no = c.1 in cc
  past_in old v h (Some u) c less = h.least u c less

  none_past_in : (old : Data) → IsNext tree_cmp In old None → (o : Option Data) → OutOrIn Out In o → option_cmp (Some old) o ≡ Less → ⊥
  none_past_in old h None c less = cc
  none_past_in old h (Some u) c less = h u c less

  pub next_in : (old : Data) (next : Option Data) → IsNext tree_cmp In old next → IsNext option_cmp (OutOrIn Out In) (Some old) (in_slot next)
  next_in old (Some v) h = record { is = h.is; least = past_in old v h }
  next_in old None h = none_past_in old h

  past_out : (v : Data) → IsLeast tree_cmp In v → (o : Option Data) → OutOrIn Out In o × (option_cmp None o ≡ Less) → option_cmp o (Some v) ≡ Less → ⊥
  past_out v h None c less = let no = c.1 in cc
  past_out v h (Some u) c less = h.least u c.0 less

  pub in_after_out : (v : Data) → IsLeast tree_cmp In v → IsNext option_cmp (OutOrIn Out In) None (Some (Some v))
  in_after_out v h = record { is = (h.is, refl); least = past_out v h }

  pub none_after_out : ((v : Data) → In v → ⊥) → (o : Option Data) → OutOrIn Out In o → option_cmp None o ≡ Less → ⊥
  none_after_out none None c less = cc
  none_after_out none (Some u) c less = none u c

-- ---- a part followed by a rest

module _ {A R S : Type 0} (part_cmp : A → A → Ordering) (rest_cmp : R → R → Ordering) (whole_cmp : S → S → Ordering) (joined : A → R → S) (C : S → Type 0) (Goes : A → R → Type 0)
    (part : IsOrder part_cmp) (order : (a b : A) (r s : R) → whole_cmp (joined a r) (joined b s) ≡ ordering_then (part_cmp a b) (rest_cmp r s))
    (split : (x : S) → C x → (a : A) × ((r : R) × (Goes a r × (x ≡ joined a r)))) (join : (a : A) (r : R) → Goes a r → C (joined a r)) where
  -- the part that some rest follows
  abbrev pub HasRest : A → Type 0
  HasRest a = (r : R) × Goes a r

  -- what is past a pair has a later part, or the same part and a later rest
  past_pair : (a b : A) (r s : R) → whole_cmp (joined a r) (joined b s) ≡ Less → (part_cmp a b ≡ Less) ⊎ ((a ≡ b) × (rest_cmp r s ≡ Less))
  past_pair a b r s less = elim (then_less (part_cmp a b) (rest_cmp r s) (sym (order a b r s) ∙ less)) [
    | inl later ↦ inl later
    | inr tie ↦ inr (part.same a b tie.0, tie.1)
  ]

  each : (Q : S → Type 0) → ((a : A) (r : R) → Goes a r → Q (joined a r)) → (x : S) → C x → Q x
  each Q of x c = let h = split x c in subst Q (sym h.1.1.1) (of h.0 h.1.0 h.1.1.0)

  pub least_pair : (a : A) (r : R) → IsLeast part_cmp HasRest a → IsLeast rest_cmp (Goes a) r → IsLeast whole_cmp C (joined a r)
  least_pair a r first rest = record {
    is = join a r rest.is;
    least = each (λ x. whole_cmp x (joined a r) ≡ Less → ⊥) (λ b s goes less. elim (past_pair b a s r less) [
      | inl before ↦ first.least b (s, goes) before
      | inr tie ↦ rest.least s (subst (λ x. Goes x s) tie.0 goes) tie.1
    ]);
  }

  -- the same part with the next rest
  pub next_rest : (a : A) (old new : R) → IsNext rest_cmp (Goes a) old (Some new) → IsNext whole_cmp C (joined a old) (Some (joined a new))
  next_rest a old new h = record {
    is = (join a new h.is.0, order a a old new ∙ rw (part.own a) h.is.1);
    least = λ x past. each (λ x. whole_cmp (joined a old) x ≡ Less → whole_cmp x (joined a new) ≡ Less → ⊥) (λ b s goes later less. elim (past_pair a b old s later) [
      | inl after ↦ elim (past_pair b a s new less) [
        | inl before ↦ part.turned a b after before
        | inr tie ↦ not_itself part_cmp part a b (sym tie.0) after
      ]
      | inr tie ↦ elim (past_pair b a s new less) [
        | inl before ↦ not_itself part_cmp part b a (sym tie.0) before
        | inr tied_too ↦ h.least s (subst (λ x. Goes x s) tied_too.0 goes, tie.1) tied_too.1
      ]
    ]) x past.0 past.1;
  }

  -- the next part with its first rest, where this one has no more
  pub next_part : (a : A) (old : R) (b : A) (new : R) → IsNext rest_cmp (Goes a) old None → IsNext part_cmp HasRest a (Some b) → IsLeast rest_cmp (Goes b) new → IsNext whole_cmp C (joined a old) (Some (joined b new))
  next_part a old b new last next first = record {
    is = (join b new first.is, order a b old new ∙ rw next.is.1 refl);
    least = λ x past. each (λ x. whole_cmp (joined a old) x ≡ Less → whole_cmp x (joined b new) ≡ Less → ⊥) (λ d s goes later less. elim (past_pair a d old s later) [
      | inl after ↦ elim (past_pair d b s new less) [
        | inl before ↦ next.least d ((s, goes), after) before
        | inr tie ↦ first.least s (subst (λ x. Goes x s) tie.0 goes) tie.1
      ]
      | inr tie ↦ last s (subst (λ x. Goes x s) (sym tie.0) goes) tie.1
    ]) x past.0 past.1;
  }

  pub no_next : (a : A) (old : R) → IsNext rest_cmp (Goes a) old None → IsNext part_cmp HasRest a None → IsNext whole_cmp C (joined a old) None
  no_next a old last none = each (λ x. whole_cmp (joined a old) x ≡ Less → ⊥) (λ b s goes later. elim (past_pair a b old s later) [
    | inl after ↦ none b (s, goes) after
    | inr tie ↦ last s (subst (λ x. Goes x s) (sym tie.0) goes) tie.1
  ])
