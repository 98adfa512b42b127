-- The parts of rows, where no row is used; and null, the first tree of one node.
use Rattle.std.specs.Prelude.{◌≡◌, ℕ, suc, ◌+◌, ◌-◌, ◌*◌, ◌≤◌, ◌<◌, List, true, false, drop, Contains}
use Rattle.std.proofs.Common.{refl, ap, sym, ◌∙◌, subst, inl, inr, arith, [], length}
use Rattle.std.proofs.Math.Seq.{drop-length}
use Rattle.std.specs.Cmp.{nat_cmp_is}
use Rattle.std.specs.Ordering.{nat_cmp}
use Rattle.std.specs.declared.cmp.Ordering.TheVariants.{Less, Equal, Greater}
use Rattle.jtree.specs.Data.{Data, null, boolean, integer, number, text, list, object}
use Rattle.jtree.specs.Nodes.{node_count, nodes}
use Rattle.jtree.specs.Order.{kind, tree_cmp}
use Rattle.jtree.specs.Internal.Rising.{contained}
use Rattle.plan.specs.Pools.Pools.{Pools}
use Rattle.plan.specs.Samples.Sites.{Slot, slots}
use Rattle.plan.specs.Samples.Sizes.{CanFill, filled_nodes, Before, nothing, state_after, Ending, MayEnd}
use Rattle.plan.specs.Samples.Candidates.{sort_of}
use Rattle.plan.specs.Samples.RuleOfParts.{RuleOfParts, admits_null}
use Rattle.plan.specs.Samples.Keys.{AreKeySlots}
use Rattle.plan.specs.Samples.Question.{Question}
use Rattle.plan.specs.declared.sort.Sort.TheVariants as sort
use Rattle.enumerate.specs.Least.{IsLeast}
use Rattle.enumerate.specs.Internal.Nodes.{site, IsPartOf, HasSizeAt, weight}
use Rattle.enumerate.specs.Internal.Rows.{slots_from, ending_at, row_demand, IsOpen, IsRow}
use Rattle.enumerate.proofs.walks.Least.{tree_order}
use Rattle.enumerate.proofs.rows.Lemmas.{known}
use Rattle.enumerate.proofs.rows.Order.{filled_count_nodes}

pub weight_next : (q : Question) (i : ℕ) → weight q (i + 1) ≡ weight q i + (4 * length (slots q.pools (site q i)) + (4 * q.limit + 8))
weight_next q i = let e : i + 1 ≡ suc i = omega arith in ap (weight q) e

-- ---- null

later_kind : (u : Data) → node_count u ≡ 1 → 0 < kind u → tree_cmp u null ≡ Less → ⊥
later_kind u n k less =
    let e : nat_cmp (nodes u) (nodes null) ≡ Equal = sym (nat_cmp_is (nodes u) (nodes null) Equal (omega (arith, n))) in
    let f : nat_cmp (kind u) 0 ≡ Greater = sym (nat_cmp_is (kind u) 0 Greater (omega (arith, k))) in
    let no = rw (e, f) at less in cc

pub null_first : (u : Data) → node_count u ≡ 1 → tree_cmp u null ≡ Less → ⊥
null_first null n less = let t = tree_order.own null in cc
null_first (boolean b) n less = later_kind (boolean b) n (omega arith) less
null_first (integer z) n less = later_kind (integer z) n (omega arith) less
null_first (number t) n less = later_kind (number t) n (omega arith) less
null_first (text t) n less = later_kind (text t) n (omega arith) less
null_first (list ds) n less = later_kind (list ds) n (omega arith) less
null_first (object ms) n less = later_kind (object ms) n (omega arith) less

-- ---- the end of a row

can_end : (P : Pools) (ss : List Slot) (end : Ending) (x : Before) → CanFill P (drop (length ss) ss) end x 0 → MayEnd end x
can_end P ss end x h = let can = subst (λ us. CanFill P us end x 0) (drop-length ss) h in can.ends

ends_so : (P : Pools) (ss : List Slot) (end : Ending) (x : Before) → MayEnd end x → CanFill P (drop (length ss) ss) end x 0
ends_so P ss end x h = subst (λ us. CanFill P us end x 0) (sym (drop-length ss)) (record { fillings = []; are = tt; ends = h; nodes_are = refl })

no_used : (ss : List Slot) (k : List Data) → Contains {X = List Data} [] k → ⊥
no_used ss k c = contained [] k c

module _ (q : Question) (i : ℕ) (rule : RuleOfParts q.pools q.limit (site q i)) (row : sort_of (site q i) ≡ sort.Row) where
  pub row_unless_null : (n : ℕ) (v : Data) → IsPartOf q i n v → (v ≡ null → admits_null q.pools (site q i) ≡ true → ⊥) → IsRow q i (n - 1) [] v
  row_unless_null n v p never = elim ((rule.row v row).0 p.part) [
    | inl gone ↦ absurd (never gone.0 gone.1)
    | inr r ↦
        let count = filled_count_nodes q.pools (slots q.pools (site q i)) r.fillings r.are in
        let nodes : 1 + filled_nodes r.fillings ≡ n = ap (λ k. 1 + k) (sym count) ∙ sym (ap node_count r.is) ∙ p.nodes_are in
        record {
          fillings = r.fillings;
          is = r.is;
          rest = record { are = r.are; ends = can_end q.pools (slots q.pools (site q i)) (ending_at q i) (state_after (slots q.pools (site q i)) r.fillings nothing) r.ends; nodes_are = omega (arith, nodes); unused = no_used (slots_from q i 0) _ };
        }
  ]

  pub plain_row : (n : ℕ) (v : Data) → IsPartOf q i n v → (n ≡ 1 → admits_null q.pools (site q i) ≡ false) → IsRow q i (n - 1) [] v
  plain_row n v p never = row_unless_null n v p (λ is nullable. let one : n ≡ 1 = sym p.nodes_are ∙ ap node_count is in let no = sym (never one) ∙ nullable in cc)

  pub row_plain : (n : ℕ) (v : Data) → 1 ≤ n → IsRow q i (n - 1) [] v → IsPartOf q i n v
  row_plain n v some r =
      let count = filled_count_nodes q.pools (slots q.pools (site q i)) r.fillings r.rest.are in
      let nodes = r.rest.nodes_are in
      let whole : 1 + filled_nodes r.fillings ≡ n = omega (arith, nodes, some) in
      record {
        part = (rule.row v row).1 (inr (record { fillings = r.fillings; is = r.is; are = r.rest.are; ends = ends_so q.pools (slots q.pools (site q i)) (ending_at q i) (state_after (slots q.pools (site q i)) r.fillings nothing) r.rest.ends }));
        nodes_are = ap node_count r.is ∙ ap (λ k. 1 + k) count ∙ whole;
      }

  pub plain_least : (n : ℕ) (v : Data) → 1 ≤ n → (n ≡ 1 → admits_null q.pools (site q i) ≡ false) → IsLeast tree_cmp (IsRow q i (n - 1) []) v → IsLeast tree_cmp (IsPartOf q i n) v
  plain_least n v some never h = record { is = row_plain n v some h.is; least = λ u p. h.least u (plain_row n u p never) }

  pub plain_open : (n : ℕ) → AreKeySlots q.pools (slots_from q i 0) → (n ≡ 1 → admits_null q.pools (site q i) ≡ false) → HasSizeAt q i n → IsOpen q.pools (slots_from q i 0) (row_demand q i (n - 1) [])
  plain_open n keys never h =
      let r = plain_row n h.part (record { part = h.is; nodes_are = h.nodes_are }) never in
      record {
        known = record { few = omega arith; tuples = λ k d lt. absurd (omega (arith, lt)); apart = λ a b d lt within. absurd (omega (arith, lt, within)) };
        rest = record { fillings = r.fillings; are = r.rest.are; ends = r.rest.ends; nodes_are = r.rest.nodes_are };
        free = (_, (known q.pools (slots_from q i 0) r.fillings keys r.rest.are, no_used (slots_from q i 0) _));
      }
