-- How wide a plan is.
use Rattle.std.specs.Prelude.{◌≡◌, ℕ, ◌+◌, ◌≤◌, ◌<◌, ◌⊎◌, List, Contains, max}
use Rattle.std.proofs.Common.{refl, ap, sym, ◌∙◌, subst, inl, inr, arith, length}
use Rattle.std.specs.declared.cmp.Ordering.TheVariants.{Less}
use Rattle.std.proofs.lemmas.Bool.{cases_lt}
use Rattle.std.proofs.lemmas.List.{get_or_default}
use Rattle.jtree.specs.Data.{Data}
use Rattle.jtree.specs.Order.{tree_cmp}
use Rattle.jtree.specs.Internal.OrderLaws.{tree_total}
use Rattle.jtree.specs.Internal.Rising.{rising, contained, contains}
use Rattle.schema.specs.Nodes.Node.{Node}
use Rattle.plan.specs.Pools.Pools.{Pools}
use Rattle.plan.specs.Samples.Sites.{Site, sites_of}
use Rattle.plan.specs.Samples.Candidates.{sort_of, HasCount, IsCandidate, HasWidthBy, HasWidth, IsWidth}
use Rattle.plan.specs.Samples.Sites.{site_at}
use Rattle.plan.specs.Internal.Widest.{IsWidest}
use Rattle.plan.specs.declared.sort.Sort.{Sort}
use Rattle.plan.specs.declared.sort.Sort.TheVariants.{Leaf, Row, List as ListSort}
use Rattle.plan.specs.Samples.Question.{Question}
use Rattle.plan.specs.Internal.Plan.{IsPlan}
use Rattle.plan.specs.declared.values.Values.{Values}
use Rattle.plan.specs.declared.arena.Entry.{Entry}
use Rattle.plan.proofs.ValueLemmas.{same_in_order}

same_count : (A : Data → Type 0) (a b : ℕ) → HasCount A a → HasCount A b → a ≡ b
same_count A a b x y =
    let xs = x.values in
    let ys = y.values in
    let same = same_in_order tree_total xs ys (rising (λ u v. tree_cmp u v ≡ Less) xs x.are.ascending) (rising (λ u v. tree_cmp u v ≡ Less) ys y.are.ascending)
    (λ v h. contained ys v ((y.are.each v).1 ((x.are.each v).0 (contains xs v h)))) (λ v h. contained xs v ((x.are.each v).1 ((y.are.each v).0 (contains ys v h)))) in
    sym x.count_is ∙ ap length same ∙ y.count_is

-- a site has one width
same_width : (sort : Sort) (P : Pools) (limit : ℕ) (s : Site) (a b : ℕ) → HasWidthBy sort P limit s a → HasWidthBy sort P limit s b → a ≡ b
same_width Leaf P limit s a b x y = same_count (IsCandidate P limit s) a b x y
same_width Row P limit s a b x y = sym x ∙ y
same_width ListSort P limit s a b x y = x ∙ sym y

pub widest_none : (P : Pools) (limit : ℕ) (sites : List Site) → IsWidest P limit sites 0 0
widest_none P limit sites = record { each = λ i w l h. absurd (omega arith); reached = inl refl }

pub widest_more : (P : Pools) (limit : ℕ) (sites : List Site) (n width w : ℕ) → IsWidest P limit sites n width → HasWidth P limit (site_at sites n) w → IsWidest P limit sites (n + 1) (max width w)
widest_more P limit sites n width w h here = record {
  each = λ i x l has. elim (cases_lt i n) as (λ _. x ≤ max width w) [
    | inl b ↦ let y = h.each i x b has in omega arith
    | inr g ↦
        let e : i ≡ n = omega arith in
        let same = same_width (sort_of (site_at sites n)) P limit (site_at sites n) x w (rw e at has) here in
        omega arith
  ];
  reached = elim (cases_lt w width) [
    | inl b ↦
        let e : max width w ≡ width = omega arith in
        rw e (elim h.reached as (λ _. (width ≡ 0) ⊎ ((i : ℕ) × ((i < n + 1) × HasWidth P limit (site_at sites i) width))) [
          | inl z ↦ inl z
          | inr r ↦ inr (r.0, (omega (arith, r.1.0), r.1.1))
        ])
    | inr g ↦ let e : max width w ≡ w = omega arith in rw e (inr (n, (omega arith, here)))
  ];
}

pub widest_all : (q : Question) (width : ℕ) → IsWidest q.pools q.limit (sites_of q.pools q.root) (length (sites_of q.pools q.root)) width → IsWidth q width
widest_all q width h =
    let sites = sites_of q.pools q.root in
    record {
      each = λ s w c has.
          let e : site_at sites c.0 ≡ s = get_or_default sites c.0 _ s c.1 ∙ c.2 in
          h.each c.0 w c.1 (subst (λ t. HasWidth q.pools q.limit t w) (sym e) has);
      reached = elim h.reached as (λ _. (width ≡ 0) ⊎ ((s : Site) × (Contains sites s × HasWidth q.pools q.limit s width))) [
        | inl z ↦ inl z
        | inr r ↦ let s = site_at sites r.0 in inr (s, ((r.0, r.1.0, get_or_default sites r.0 s _ r.1.0), r.1.1))
      ];
    }

-- in terms of the plan's view
pub width_in : {Z : Type 0} (holds : Z → ℕ → Type 0) (BITS : ℕ) (root : Node) (P : Pools) (limit : ℕ) (v : Values) (es : List (Entry Z)) (first : ℕ) (q : Question) (width : ℕ) → IsPlan holds BITS root P limit v es first → record { root = root; pools = P; limit = limit } ≡ q
    → IsWidest P limit (sites_of P root) (length es) width → IsWidth q width
width_in holds BITS root P limit v es first q width plan view h = subst (λ x. IsWidth x width) view (widest_all (record { root = root; pools = P; limit = limit }) width (rw plan.count at h))
