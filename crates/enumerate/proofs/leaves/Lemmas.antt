-- The candidates of a leaf: that there is one list of them, and the first one in it for which something holds.
use Rattle.std.proofs.Common.{◌≡◌, ◌<◌, ◌≤◌, ◌+◌, ℕ, List, [], ◌∷◌, length, Bool, true, Option, Some, None, Contains, refl, sym, ap, ◌∙◌, subst, inl, inr, arith}
use Rattle.std.specs.Prelude.{slice_get}
use Rattle.std.specs.List.{list_any}
use Rattle.std.specs.Ordering.{is_eq}
use Rattle.std.specs.Cmp.{Equal-is}
use Rattle.std.specs.declared.cmp.Ordering.TheVariants.{Less, Equal}
use Rattle.std.proofs.lemmas.Bool.{cases_lt, or_cases}
use Rattle.std.proofs.Math.Bool.{or-true}
use Rattle.std.proofs.lemmas.List.Elements.{Contains-get_or}
use Rattle.std.proofs.lemmas.Option.{slice_get-get_or, slice_get_within, get_or_from_slice_get}
use Rattle.jtree.specs.Data.{Data, null}
use Rattle.jtree.specs.Order.{tree_cmp}
use Rattle.jtree.specs.View.{data_of}
use Rattle.jtree.specs.declared.value.Tree.{Tree}
use Rattle.jtree.specs.Internal.OrderLaws.{tree_same}
use Rattle.jtree.specs.Internal.Rising.{Among, Rising, contained, contains, rising}
use Rattle.plan.specs.Samples.Part.{IsPart}
use Rattle.plan.specs.Samples.Candidates.{AreCandidates, HasCount, HasWidthBy, IsWidth, sort_of}
use Rattle.plan.specs.Samples.ByPlace.{IsCandidateAt}
use Rattle.plan.specs.Samples.Sites.{sites_of}
use Rattle.plan.specs.Samples.Question.{Question}
use Rattle.plan.specs.declared.sort.Sort.TheVariants as sort
use Rattle.enumerate.specs.View.{trees_of}
use Rattle.enumerate.specs.Internal.Nodes.{site, IsNodeOf, IsCandidateOf}
use Rattle.enumerate.proofs.walks.Least.{tree_order, not_itself}

-- ---- lists that ascend

abbrev IsBefore : Data → Data → Type 0
IsBefore u v = tree_cmp u v ≡ Less

-- two lists that ascend and have the same members are the same
rising_same : (us vs : List Data) → Rising IsBefore us → Rising IsBefore vs → ((v : Data) → Among us v → Among vs v) → ((v : Data) → Among vs v → Among us v) → us ≡ vs
rising_same [] [] r s there back = refl
rising_same [] (v ∷ vs) r s there back = absurd (back v (inl refl))
rising_same (u ∷ us) [] r s there back = absurd (there u (inl refl))
rising_same (u ∷ us) (v ∷ vs) r s there back =
    let first : u ≡ v = elim (there u (inl refl)) [
      | inl same ↦ sym same
      | inr a ↦ elim (back v (inl refl)) [
        | inl same ↦ same
        | inr b ↦ absurd (tree_order.turned u v (r.0 v b) (s.0 u a))
      ]
    ] in
    let rest = rising_same us vs r.1 s.1
    (λ w a. elim (there w (inr a)) [ inl same ↦ absurd (not_itself tree_cmp tree_order u w (first ∙ same) (r.0 w a)) | inr b ↦ b ])
    (λ w b. elim (back w (inr b)) [ inl same ↦ absurd (not_itself tree_cmp tree_order v w (sym first ∙ same) (s.0 w b)) | inr a ↦ a ]) in
    cc

module _ (q : Question) (i : ℕ) where
  pub candidates_same : (us vs : List Data) → AreCandidates q.pools q.limit (site q i) us → AreCandidates q.pools q.limit (site q i) vs → us ≡ vs
  candidates_same us vs c d = rising_same us vs (rising IsBefore us c.ascending) (rising IsBefore vs d.ascending)
      (λ v a. contained vs v ((d.each v).1 ((c.each v).0 (contains us v a))))
      (λ v a. contained us v ((c.each v).1 ((d.each v).0 (contains vs v a))))

  pub candidate_part : (place : ℕ) (v : Data) → IsCandidateAt q.pools q.limit (site q i) place (Some v) → IsPart q.pools (site q i) v
  candidate_part place v candidate =
      let at : slice_get candidate.candidates place ≡ Some v = sym candidate.is in
      ((candidate.are.each v).0 (place, slice_get_within candidate.candidates place v at, get_or_from_slice_get candidate.candidates place v v at)).0

  -- before the end there is one
  pub some_candidate : (place n : ℕ) → HasCount (IsCandidateOf q i) n → place < n → IsCandidateAt q.pools q.limit (site q i) place None → ⊥
  some_candidate place n count inside candidate =
      let same = ap length (candidates_same candidate.candidates count.values candidate.are count.are) in
      let at = slice_get-get_or candidate.candidates place null (omega (arith, inside, same, count.count_is)) in
      let is = candidate.is in
      cc

  -- a leaf has at most as many candidates as the plan is wide
  pub count_within : IsNodeOf q i → sort_of (site q i) ≡ sort.Leaf → (n : ℕ) → HasCount (IsCandidateOf q i) n → (w : ℕ) → IsWidth q w → n ≤ w
  count_within at leaf n count w width =
      width.each (site q i) n (Contains-get_or (sites_of q.pools q.root) i _ at) (subst (λ s. HasWidthBy s q.pools q.limit (site q i) n) (sym leaf) count)

  -- ---- the first candidate for which C holds

  module _ (C : Data → Type 0) where
    -- it holds for none before a place
    abbrev pub NoneBefore : ℕ → Type 0
    NoneBefore place = (vs : List Data) → AreCandidates q.pools q.limit (site q i) vs → (j : ℕ) (u : Data) → j < place → slice_get vs j ≡ Some u → C u → ⊥

    pub none_after : (place : ℕ) (o : Option Data) → IsCandidateAt q.pools q.limit (site q i) place o → NoneBefore place → ((v : Data) → o ≡ Some v → C v → ⊥) → NoneBefore (place + 1)
    none_after place o candidate none not_it vs are j u below at c = elim (cases_lt j place) [
      | inl lt ↦ none vs are j u lt at c
      | inr ge ↦
          let here : place ≡ j = omega arith in
          let same : candidate.candidates ≡ vs = candidates_same candidate.candidates vs candidate.are are in
          not_it u (candidate.is ∙ (ap (λ xs. slice_get xs place) same ∙ (ap (slice_get vs) here ∙ at))) c
    ]

    module _ (within : (u : Data) → C u → IsCandidateOf q i u) where
      pub index_of : (vs : List Data) → AreCandidates q.pools q.limit (site q i) vs → (u : Data) → C u → (j : ℕ) × (j < length vs) × (slice_get vs j ≡ Some u)
      index_of vs are u c =
          let k = (are.each u).1 (within u c) in
          (k.0, k.1, slice_get-get_or vs k.0 u k.1 ∙ ap Some k.2)

      pub none_at_all : (place : ℕ) → HasCount (IsCandidateOf q i) place → NoneBefore place → (u : Data) → C u → ⊥
      none_at_all place count none u c =
          let k = index_of count.values count.are u c in
          none count.values count.are k.0 u (omega (arith, k.1, count.count_is)) k.2 c

-- ---- whether a tree is among trees

abbrev pub has_tree : List Tree → Tree → Bool
has_tree ts t = list_any (λ u. is_eq (tree_cmp (data_of u) (data_of t))) ts

among_found : (ts : List Tree) (t : Tree) → has_tree ts t ≡ true → Among (trees_of ts) (data_of t)
among_found [] t e = cc
among_found (u ∷ ts) t e = elim (or_cases (is_eq (tree_cmp (data_of u) (data_of t))) (has_tree ts t) e) [
  | inl here ↦ inl (tree_same (data_of u) (data_of t) ((Equal-is (tree_cmp (data_of u) (data_of t))).0 here))
  | inr later ↦ inr (among_found ts t later)
]

found_among : (ts : List Tree) (t : Tree) → Among (trees_of ts) (data_of t) → has_tree ts t ≡ true
found_among [] t a = absurd a
found_among (u ∷ ts) t (inl same) = let here : tree_cmp (data_of u) (data_of t) ≡ Equal = rw same (tree_order.own (data_of t)) in rw here refl
found_among (u ∷ ts) t (inr later) = rw (found_among ts t later) (or-true (is_eq (tree_cmp (data_of u) (data_of t))))

pub tree_found : (ts : List Tree) (t : Tree) → has_tree ts t ≡ true → Contains (trees_of ts) (data_of t)
tree_found ts t e = contains (trees_of ts) (data_of t) (among_found ts t e)

pub found_tree : (ts : List Tree) (t : Tree) → Contains (trees_of ts) (data_of t) → has_tree ts t ≡ true
found_tree ts t c = found_among ts t (contained (trees_of ts) (data_of t) c)
