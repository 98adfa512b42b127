-- The current sample of an enumeration, and the next ones in the place of its last node.
use Rattle.std.proofs.Common.{◌≡◌, ◌<◌, ◌+◌, ◌*◌, ℕ, List, [], ◌∷◌, ◌++◌, true, Option, Some, None, sym, ◌∙◌, subst, arith}
use Rattle.enumerate.specs.Change.{Changes}
use Rattle.enumerate.specs.declared.taker.Change.{Change}
use Rattle.std.specs.Prelude.{IfSome, OnErr, Result, Ok, Err}
use Rattle.jtree.specs.Data.{Data}
use Rattle.jtree.specs.Last.{with_last}
use Rattle.jtree.specs.Nodes.{node_count}
use Rattle.jtree.specs.View.{data_of}
use Rattle.plan.specs.Samples.Question.{Question}
use Rattle.plan.specs.Samples.Sites.{root_site}
use Rattle.enumerate.specs.Live.{IsNextSample, IsWithinDelay}
use Rattle.enumerate.specs.Page.{IsSampleOf}
use Rattle.enumerate.specs.Internal.Following.{Follow, Continue}
use Rattle.enumerate.specs.Internal.Nodes.{site, IsPartOf, Costs}
use Rattle.enumerate.specs.Internal.Current.{FollowSample, ContinueSample, Advances, ChangesIf}
use Rattle.enumerate.specs.declared.current.Current.{Current}
use Rattle.enumerate.proofs.samples.Lemmas.{next_same_size}

module _ (q : Question) (i : ℕ) (root : site q i ≡ root_site q.root) (small : q.limit < 4294967296) (counts : (d v : Data) → node_count (with_last d v) + 1 ≡ node_count d + node_count v) where
  -- where values make the next parts of the root, they make the next samples
  follow_sample : (v : Data) (cs : List Data) → IsSampleOf q v → Follow (IsPartOf q i (node_count v)) v cs → FollowSample q v cs
  follow_sample v [] s f = tt
  follow_sample v (c ∷ cs) s f =
      let w = with_last v c in
      let next = next_same_size q i root small v w s f.0 in
      let nodes : node_count w ≡ node_count v = f.0.is.0.nodes_are in
      (omega (arith, counts v c, nodes), next, follow_sample w cs next.is.sample (subst (λ n. Follow (IsPartOf q i n) w cs) (sym nodes) f.1))

  pub continue_sample : (v : Data) (cs : List Data) → IsSampleOf q v → Continue (IsPartOf q i (node_count v)) v cs → ContinueSample q v cs
  continue_sample v [] s f = tt
  continue_sample v (u ∷ cs) s f = (f.0, follow_sample v cs s f.1)

-- the value after the one that is there is put in its place
pub put_sample : (q : Question) (again : (d v w : Data) → node_count v ≡ 1 → with_last (with_last d v) w ≡ with_last d w) (v u c : Data) (cs : List Data) → ContinueSample q v (u ∷ c ∷ cs)
    → IsNextSample q (Some v) (Some (with_last v c)) × ContinueSample q (with_last v c) (c ∷ cs) × (with_last (with_last v c) u ≡ v)
put_sample q again v u c cs (same, (one, next, later)) = (next, (again v c c one, later), again v c u one ∙ same)

pub where_err : {T E : Type 0} (r : Result T E) (P : Type 0) → P → OnErr r P
where_err (Ok x) P h = tt
where_err (Err e) P h = h

-- the sample differs from what was taken last in this alone
abbrev pub CanChange : (List Data → Type 0) → Data → Option Change → Type 0
CanChange has_taken v None = Unit {0}
CanChange has_taken v (Some c) = (items : List Data) × (old : Data) × has_taken (items ++ old ∷ []) × Changes c old v

-- the same, as a taker requires it
pub needed : {T : Type 0} (has_taken : T → T → List Data → Type 0) (first now : T) (v : Data) (c : Option Change) → CanChange (has_taken first now) v c → IfSome c (λ c. (first : T) × (items : List Data) × (old : Data) × has_taken first now (items ++ old ∷ []) × Changes c old v)
needed has_taken first now v None h = tt
needed has_taken first now v (Some c) h = (first, h.0, h.1, h.2, h.3)

pub can_change : (q : Question) (old new : Current) (has_taken : List Data → Type 0) (items : List Data) → Advances q old new true → has_taken (items ++ data_of old.tree ∷ []) → CanChange has_taken (data_of new.tree) new.change
can_change q old new has_taken items (next, current, changes) taken = changed new.change changes
  where
    changed : (c : Option Change) → ChangesIf c (data_of old.tree) (data_of new.tree) → CanChange has_taken (data_of new.tree) c
    changed None h = tt
    changed (Some c) h = (items, data_of old.tree, taken, h)

-- the delay has room for a step
pub advance_within : (q : Question) (before after : ℕ) → Costs q before after (3 * q.limit) → IsWithinDelay q before after
advance_within q before after costs = λ w wide. omega (arith, costs w wide)
