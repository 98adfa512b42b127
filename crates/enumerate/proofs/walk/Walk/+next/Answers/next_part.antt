use Rattle.std.proofs.Common.{refl, sym, ap, subst, arith, []}
use Rattle.std.proofs.lemmas.Result.{IfOk-weaker}
use Rattle.jtree.specs.Nodes.{node_count}
use Rattle.jtree.specs.Internal.Rising.{contained}
use Rattle.enumerate.specs.Internal.Nodes.{IsPartOf}
use Rattle.enumerate.specs.Internal.Candidates.{stack_of, IsUnusedPart}
use Rattle.enumerate.proofs.walks.Costs.{costs_thrice, costs_less, costs_last}
use Rattle.enumerate.proofs.samples.Following.{if_both, moved_continues_same, none_continues, row_moved_continues}
use Rattle.enumerate.proofs.lists.Lemmas.{some_nodes}
use Rattle.enumerate.proofs.walks.Moves.{moved_same}
use Rattle.enumerate.proofs.walks.Nulls.{row_moved}
use Rattle.enumerate.proofs.rows.Parts.{weight_next, row_unless_null}
use Rattle.jtree.specs.View.{data_of}
use Rattle.enumerate.specs.Internal.Moves.{IsNextTree}
use Rattle.enumerate.proofs.walk.Walk.+next.Goals as goal

pub next_row-requires : goal.next_part-next_row-requires
next_row-requires g t c κs within =
    let q = c.args.self.now.plan.now in
    let row = sym c.in-Row.ensures in (
      omega (arith, c.decreases, weight_next q c.args.node),
      (
        within,
        (
          record { node = c.requires.node; sort = row },
          (
            record { few = omega arith; tuples = λ k d lt. absurd (omega (arith, lt)); apart = λ a b d lt inside. absurd (omega (arith, lt, inside)) },
            (
              row_unless_null q c.args.node c.laws_of.ensures.rule row (node_count (data_of c.args.tree)) (data_of c.args.tree) (record { part = c.requires.part; nodes_are = refl })
                  (λ is nullable. let yes = c.is_null.ensures.1 is in let no = c.if-is_null.false in cc),
              c.requires.limit,
            ),
          ),
        ),
      ),
    )

pub next_list-requires : goal.next_part-next_list-requires
next_list-requires g t c κs within =
    let q = c.args.self.now.plan.now in
    (omega (arith, c.decreases, weight_next q c.args.node), (within, (record { node = c.requires.node; sort = sym c.in-List.ensures }, (c.requires.part, (λ is. let yes = c.is_null.ensures.1 is in let no = c.if-is_null.false in cc, c.requires.limit)))))

pub returns-in_default : goal.next_part-returns-in_default
returns-in_default g t c =
    let q = c.args.self.now.plan.now in
    let null = c.is_null.ensures.0 c.if-is_null.true in
    record {
      ok = subst (λ v. IsNextTree (IsPartOf q c.args.node (node_count v)) v c.after_null.result) (sym null) c.after_null.ensures;
      following = none_continues (IsPartOf q c.args.node (node_count (data_of c.args.tree))) c.after_null.result (stack_of c.clear.new.self.items) (ap stack_of c.clear.ensures.items);
      steps = (λ w wide. omega arith, costs_last c.after_null.result q c.args.meter.now c.args.meter.now (node_count (data_of c.args.tree)) (λ w wide. omega arith));
    }

pub returns-in-Row : goal.next_part-returns-in-Row
returns-in-Row g t c =
    let q = c.args.self.now.plan.now in
    let row = sym c.in-Row.ensures in
    record {
      ok = IfOk-weaker c.next_row.result _ _ (λ m h. row_moved q c.args.node c.laws_of.ensures.rule row (data_of c.args.tree) m h) c.next_row.ensures.ok;
      following = if_both c.next_row.result _ _ _ (λ m h k. row_moved_continues q c.args.node c.laws_of.ensures.rule row (node_count (data_of c.args.tree)) (data_of c.args.tree) m (stack_of c.next_row.new.scratch.following.items) (some_nodes (data_of c.args.tree)) h k) c.next_row.ensures.ok c.next_row.ensures.following;
      steps = c.next_row.ensures.steps;
    }

pub returns-in-Leaf : goal.next_part-returns-in-Leaf
returns-in-Leaf g t c =
    let q = c.args.self.now.plan.now in
    let n = node_count (data_of c.args.tree) in
    record {
      ok = IfOk-weaker c.next_unused.result _ _ (λ m h. moved_same (IsUnusedPart q c.args.node n []) (IsPartOf q c.args.node n) (data_of c.args.tree) m (λ u p. p.0) (λ u p. (p, λ k. contained [] _ k)) h) c.next_unused.ensures.ok;
      following = IfOk-weaker c.next_unused.result _ _ (λ m h. moved_continues_same (IsUnusedPart q c.args.node n []) (IsPartOf q c.args.node n) m (stack_of c.next_unused.new.scratch.following.items) (λ u p. p.0) (λ u p. (p, λ k. contained [] _ k)) h) c.next_unused.ensures.following;
      steps = (costs_thrice c.args.self.now.plan.now c.args.meter.now c.next_unused.new.meter (node_count (data_of c.args.tree)) (some_nodes (data_of c.args.tree)) c.next_unused.ensures.steps, IfOk-weaker c.next_unused.result _ _ (λ m h. costs_less c.args.self.now.plan.now m c.args.meter.now c.next_unused.new.meter (node_count (data_of c.args.tree)) (some_nodes (data_of c.args.tree)) c.next_unused.ensures.steps) c.next_unused.ensures.ok);
    }
