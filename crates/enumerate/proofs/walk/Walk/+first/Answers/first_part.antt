use Rattle.std.proofs.lemmas.Result.{IfOk-weaker}
use Rattle.enumerate.specs.Internal.Following.{Continue}
use Rattle.enumerate.proofs.samples.Following.{continue_same, part_continues, if_both}
use Rattle.enumerate.proofs.walks.Membership.{null_part}
use Rattle.enumerate.proofs.walks.Costs.{costs_within}
use Rattle.enumerate.proofs.rows.Slots.{keys_at}
use Rattle.enumerate.proofs.rows.Parts.{weight_next, null_first, plain_least, plain_open}
use Rattle.enumerate.proofs.walks.Least.{least_same}
use Rattle.jtree.specs.Internal.Rising.{contained}
use Rattle.enumerate.specs.Internal.Candidates.{IsUnusedPart, stack_of}
use Rattle.enumerate.proofs.walk.Walk.+first.Goals.{first_part-then-size-eq1+else-null_ok, first_part-else-size-eq1}
use Rattle.std.proofs.Common.{refl, sym, subst, ◌∙◌, arith, ◌≡◌, []}
use Rattle.enumerate.proofs.lists.Lemmas.{some_size}
use Rattle.jtree.specs.Data.{null}
use Rattle.jtree.specs.Order.{tree_cmp}
use Rattle.jtree.specs.View.{data_of}
use Rattle.enumerate.specs.Internal.Nodes.{IsPartOf}
use Rattle.enumerate.proofs.walk.Walk.+first.Goals as goal

pub first_row-requires : goal.first_part-first_row-requires
first_row-requires g t c κs within =
    let q = c.args.self.now.plan.now in
    let row = sym c.in-Row.ensures in
    let some = some_size c.requires.size in (
      omega (arith, c.decreases, weight_next q c.args.node),
      (
        within,
        (
          record { node = c.requires.node; sort = row },
          (
            some,
            (
              c.requires.limit,
              plain_open q c.args.node c.laws_of.ensures.rule row c.args.size (keys_at q c.args.node 0 c.laws_of.ensures.sound) (elim c.if-size-eq1.branch [
                | first_part-then-size-eq1+else-null_ok w ↦ λ e. sym w.null_ok.ensures ∙ w.if-null_ok.false
                | first_part-else-size-eq1 w ↦ λ e. absurd (omega (arith, w.if-size-eq1.false, e))
              ]) c.requires.size,
            ),
          ),
        ),
      ),
    )

pub first_list-requires : goal.first_part-first_list-requires
first_list-requires g t c κs within =
    let q = c.args.self.now.plan.now in (
      omega (arith, c.decreases, weight_next q c.args.node),
      (
        within,
        (
          record { node = c.requires.node; sort = sym c.in-List.ensures },
          (
            elim c.if-size-eq1.branch [
              | first_part-then-size-eq1+else-null_ok w ↦ λ e. sym w.null_ok.ensures ∙ w.if-null_ok.false
              | first_part-else-size-eq1 w ↦ λ e. absurd (omega (arith, w.if-size-eq1.false, e))
            ],
            (c.requires.size, c.requires.limit),
          ),
        ),
      ),
    )

pub first_unused-requires-clause-free : goal.first_part-first_unused-requires-clause-free
first_unused-requires-clause-free g t c =
    (c.requires.size.part, (record { part = c.requires.size.is; nodes_are = c.requires.size.nodes_are }, λ k. contained [] _ k))

pub returns-in_default : goal.first_part-returns-in_default
returns-in_default g t c =
    let q = c.args.self.now.plan.now in
    let one : c.args.size ≡ 1 = omega (arith, c.if-size-eq1.true) in
    record {
      ok = record {
        is = record { part = (null_part q c.args.node c.laws_of.ensures.rule null (λ leaf. let no = c.in_default.not-Leaf in no (c.sort.ensures ∙ leaf)) (omega (arith, one, c.requires.limit)) refl).1 (sym c.null_ok.ensures ∙ c.if-null_ok.true); nodes_are = sym one };
        least = λ u p. null_first u (p.nodes_are ∙ one);
      };
      following = subst (λ l. Continue (IsPartOf q c.args.node c.args.size) null (stack_of l)) (sym c.clear.ensures.items) tt;
      steps = λ w wide. omega arith;
    }

pub returns-in-Row : goal.first_part-returns-in-Row
returns-in-Row g t c =
    let q = c.args.self.now.plan.now in
    let row = sym c.in-Row.ensures in
    let some = some_size c.requires.size in
    record {
      ok = IfOk-weaker c.first_row.result _ _ (λ v h. plain_least q c.args.node c.laws_of.ensures.rule row c.args.size (data_of v) some (elim c.if-size-eq1.branch [
        | first_part-then-size-eq1+else-null_ok w ↦ λ e. sym w.null_ok.ensures ∙ w.if-null_ok.false
        | first_part-else-size-eq1 w ↦ λ e. absurd (omega (arith, w.if-size-eq1.false, e))
      ]) h) c.first_row.ensures.ok;
      following = if_both c.first_row.result _ _ _ (λ v h k. part_continues q c.args.node c.laws_of.ensures.rule row c.args.size (data_of v) (stack_of c.first_row.new.scratch.following.items) some h.is k) c.first_row.ensures.ok c.first_row.ensures.following;
      steps = c.first_row.ensures.steps;
    }

pub returns-in-Leaf : goal.first_part-returns-in-Leaf
returns-in-Leaf g t c =
    record {
      ok = IfOk-weaker c.first_unused.result _ _ (λ v h. least_same tree_cmp (IsUnusedPart c.args.self.now.plan.now c.args.node c.args.size []) (IsPartOf c.args.self.now.plan.now c.args.node c.args.size) (data_of v) (λ u p. p.0) (λ u p. (p, λ k. contained [] _ k)) h) c.first_unused.ensures.ok;
      following =
          let q = c.args.self.now.plan.now in
          let n = c.args.size in
          IfOk-weaker c.first_unused.result _ _ (λ v h. continue_same (IsUnusedPart q c.args.node n []) (IsPartOf q c.args.node n) (data_of v) (stack_of c.first_unused.new.scratch.following.items) (λ u p. p.0) (λ u p. (p, λ k. contained [] _ k)) h) c.first_unused.ensures.following;
      steps = costs_within c.args.self.now.plan.now c.args.meter.now c.first_unused.new.meter 1 c.args.size (some_size c.requires.size) c.first_unused.ensures.steps;
    }
