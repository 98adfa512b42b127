-- Samples are the parts of the root within the limit, by size.
use Rattle.std.proofs.Common.{◌≡◌, ◌<◌, ◌≤◌, ◌+◌, ℕ, Option, Some, None, refl, sym, subst, arith}
use Rattle.jtree.specs.Data.{Data}
use Rattle.jtree.specs.Nodes.{node_count, most_nodes}
use Rattle.jtree.specs.Order.{tree_cmp}
use Rattle.plan.specs.Samples.Part.{IsPart}
use Rattle.plan.specs.Samples.Question.{Question}
use Rattle.plan.specs.Samples.Sites.{root_site}
use Rattle.plan.specs.Samples.Sizes.{IsUpTo}
use Rattle.plan.specs.Sets.{IsLeastFrom, IsEmptyFrom}
use Rattle.enumerate.specs.Least.{IsLeast, IsNext}
use Rattle.enumerate.specs.Live.{IsNextSample}
use Rattle.enumerate.specs.Page.{IsSampleOf, IsPastSample}
use Rattle.enumerate.specs.Internal.Nodes.{site, IsPartOf, HasSizeAt}
use Rattle.enumerate.specs.Internal.Roots.{IsFirstFrom}
use Rattle.enumerate.proofs.lists.Lemmas.{least_from_same}
use Rattle.enumerate.proofs.walks.Least.{least_from, next_of_size, more_nodes, fewer_nodes}

-- of trees that are samples the next one is the next sample
past_next : (q : Question) (old : Data) (next : Option Data) → IsNext tree_cmp (IsSampleOf q) old next → IsNextSample q (Some old) next
past_next q old (Some v) h = record { is = record { sample = h.is.0; past = h.is.1 }; least = λ u p. h.least u (p.sample, p.past) }
past_next q old None h = λ v p. h v p.sample p.past

pub few : (q : Question) (v : Data) → q.limit < 4294967296 → IsSampleOf q v → node_count v ≤ q.limit
few q v small h = omega (arith, h.within, small)

module _ (q : Question) (i : ℕ) (root : site q i ≡ root_site q.root) (small : q.limit < 4294967296) where
  pub part_of : (v : Data) → IsSampleOf q v → IsPart q.pools (site q i) v
  part_of v h = subst (λ s. IsPart q.pools s v) (sym root) h.part

  pub sample_of : (v : Data) → IsPart q.pools (site q i) v → node_count v ≤ q.limit → IsSampleOf q v
  sample_of v p h = record { part = subst (λ s. IsPart q.pools s v) root p; within = omega (arith, h) }

  abbrev Size : ℕ → Type 0
  Size n = (n ≤ q.limit) × HasSizeAt q i n

  count : (n : ℕ) (v : Data) → IsPartOf q i n v → node_count v ≡ n
  count n v p = p.nodes_are

  size_small : (n : ℕ) → Size n → n ≤ most_nodes
  size_small n h = omega (arith, h.0, small)

  abbrev FitsRoot : Data → Type 0
  FitsRoot v = Size (node_count v) × IsPartOf q i (node_count v) v

  fits_sample : (v : Data) → IsSampleOf q v → FitsRoot v
  fits_sample v h = let p = part_of v h in ((few q v small h, record { part = v; is = p; nodes_are = refl }), record { part = p; nodes_are = refl })

  of_size : (n : ℕ) (v : Data) → n ≤ q.limit → IsPartOf q i n v → IsSampleOf q v
  of_size n v h p = sample_of v p.part (omega (arith, h, p.nodes_are))

  -- the first part of the least size is the first sample
  module _ (A : ℕ → Type 0) (exact : IsUpTo q.limit A (HasSizeAt q i)) (from : ℕ) where
    pub found_from : (n : ℕ) (v : Data) → IsLeastFrom A from n → IsLeast tree_cmp (IsPartOf q i n) v → IsFirstFrom q from (Some v)
    found_from n v least first =
        let size = least_from_same A Size from n exact least in
        record {
          is = (of_size n v size.1.0 first.is, omega (arith, size.0, first.is.nodes_are));
          least = λ u s less. least_from (IsPartOf q i) Size count size_small from n v size first u (fits_sample u s.0) s.1 less;
        }

    pub none_from : IsEmptyFrom A from → IsFirstFrom q from None
    none_from none = λ v s. none (node_count v) s.1 ((exact (node_count v)).1 (fits_sample v s.0).0)

  -- the next sample is the next part of as many nodes
  pub next_same_size : (old new : Data) → IsSampleOf q old → IsNext tree_cmp (IsPartOf q i (node_count old)) old (Some new) → IsNextSample q (Some old) (Some new)
  next_same_size old new s h =
      let next = next_of_size (IsPartOf q i) Size count size_small old new (fits_sample old s) h in
      record {
        is = record { sample = of_size (node_count old) new (few q old small s) h.is.0; past = next.is.1 };
        least = λ u p. next.least u (fits_sample u p.sample, p.past);
      }

  module _ (old : Data) (s : IsSampleOf q old) (last : IsNext tree_cmp (IsPartOf q i (node_count old)) old None) where
    later : (u : Data) → IsPastSample q (Some old) u → node_count old + 1 ≤ node_count u
    later u p = more_nodes (IsPartOf q i) Size count size_small old (fits_sample old s) last u (fits_sample u p.sample) p.past

    -- or where there is none, the first one of more nodes
    pub next_more : (found : Option Data) → IsFirstFrom q (node_count old + 1) found → IsNextSample q (Some old) found
    next_more (Some v) h = record {
      is = record { sample = h.is.0; past = fewer_nodes old v (omega (arith, h.is.1)) (omega (arith, few q v small h.is.0, small)) };
      least = λ u p. h.least u (p.sample, later u p);
    }
    next_more None h = λ v p. h v (p.sample, later v p)

    pub next_none : q.limit ≤ node_count old → IsNextSample q (Some old) None
    next_none full = λ v p. absurd (omega (arith, full, later v p, few q v small p.sample))
