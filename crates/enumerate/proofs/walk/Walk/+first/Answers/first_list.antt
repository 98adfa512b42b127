use Rattle.std.proofs.Common.{rules, inl, sym, ap, subst, arith, ◌-◌, ℕ, IfNone}
use Rattle.enumerate.specs.Internal.Following.{Continue}
use Rattle.enumerate.proofs.samples.Following.{list_continues}
use Rattle.enumerate.proofs.walks.Costs.{costs_below}
use Rattle.jtree.specs.Data.{list as list_data}
use Rattle.enumerate.proofs.lists.Lemmas.{some_size}
use Rattle.enumerate.proofs.lists.Whole.{list_longer, list_follow, list_first, list_alone}
use Rattle.enumerate.proofs.walk.Walk.+first.Goals.{first_list-then-size-gt1+in-Some+in_ok-first_items, first_list-else-size-gt1}
use Rattle.jtree.specs.Order.{tree_cmp}
use Rattle.jtree.specs.View.{items_of}
use Rattle.plan.specs.Samples.Sizes.{HasMore}
use Rattle.enumerate.specs.Least.{IsLeast}
use Rattle.enumerate.specs.Internal.Nodes.{site, IsPartOf, Costs}
use Rattle.enumerate.specs.Internal.Candidates.{stack_of}
use Rattle.enumerate.specs.Internal.Lists.{CanFollow, AddsItems}
use Rattle.enumerate.proofs.walk.Walk.+first.Goals as goal

pub unreachable-requires : goal.first_list-unreachable-requires
unreachable-requires g t c =
    let q = c.args.self.now.plan.now in
    let rule = c.laws_of.ensures.rule in
    let longer = list_longer q c.args.node rule c.requires.node.sort c.args.size (omega (arith, c.if-size-gt1.true)) c.requires.limit c.requires.no_null c.if-size-gt1.true c.requires.size in
    let none = subst (λ r. IfNone r ((m : ℕ) → HasMore q.pools q.limit (site q c.args.node) 1 m → ⊥)) c.in_default.is c.item.ensures.none in
    none longer.0 longer.1

pub first_items-requires : goal.first_list-first_items-requires
first_items-requires g t c κs within =
    let q = c.args.self.now.plan.now in
    let follow = list_follow q c.args.node c.laws_of.ensures.rule c.requires.node.sort c.args.size (omega (arith, c.if-size-gt1.true)) c.requires.limit c.requires.no_null c.in-Some.child c.in-Some.ensures.some c.requires.size in
    (omega (arith, c.decreases, c.requires.limit), (within, record { list = record { node = c.requires.node.node; child = c.in-Some.ensures.below }; follow = subst (λ l. CanFollow q c.args.node c.in-Some.child (c.args.size - 1) (items_of l)) (sym c.new-items.ensures.items) follow; following = inl (ap stack_of c.clear.ensures.items) }))

pub returns-in_err-first_items : goal.first_list-returns-in_err-first_items
returns-in_err-first_items g t c =
    record { ok = search rules; following = search rules; steps = costs_below c.args.self.now.plan.now c.args.meter.now c.item.new.meter c.first_items.new.meter (c.args.size - 1) c.args.size c.item.ensures.step (omega (arith, c.if-size-gt1.true)) c.first_items.ensures.steps }

pub returns : goal.first_list-returns
returns g t c =
    let q = c.args.self.now.plan.now in
    let some = some_size c.requires.size in
    record {
      ok =
          let rule = c.laws_of.ensures.rule in
          elim c.if-size-gt1.branch [
            | first_list-then-size-gt1+in-Some+in_ok-first_items b ↦
                subst (λ v. IsLeast tree_cmp (IsPartOf q c.args.node c.args.size) (list_data (items_of v.items))) (sym b.items-is)
                (list_first q c.args.node rule c.requires.node.sort c.args.size some c.requires.limit c.requires.no_null _
                (subst (λ l. AddsItems q c.args.node (c.args.size - 1) l b.first_items.new.items.items) c.new-items.ensures.items b.in_ok-first_items.ensures.ok))
            | first_list-else-size-gt1 b ↦
                subst (λ v. IsLeast tree_cmp (IsPartOf q c.args.node c.args.size) (list_data (items_of v.items))) (sym b.items-is)
                (subst (λ l. IsLeast tree_cmp (IsPartOf q c.args.node c.args.size) (list_data (items_of l))) (sym c.new-items.ensures.items)
                (list_alone q c.args.node rule c.requires.node.sort c.args.size some c.requires.limit c.requires.no_null (omega (arith, b.if-size-gt1.false)) c.requires.size))
          ];
      following =
          let i = c.args.node in
          let n = c.args.size in
          let rule = c.laws_of.ensures.rule in
          elim c.if-size-gt1.branch [
            | first_list-then-size-gt1+in-Some+in_ok-first_items b ↦
                let first = list_first q i rule c.requires.node.sort n some c.requires.limit c.requires.no_null _ (subst (λ l. AddsItems q i (n - 1) l b.first_items.new.items.items) c.new-items.ensures.items b.in_ok-first_items.ensures.ok) in
                subst (λ s. Continue (IsPartOf q i n) (list_data (items_of c.if-size-gt1.items.items)) (stack_of s.following.items)) (sym b.scratch-is)
                (subst (λ v. Continue (IsPartOf q i n) (list_data (items_of v.items)) (stack_of b.first_items.new.scratch.following.items)) (sym b.items-is)
                (list_continues q i b.in-Some.child (record { rule = rule; ends = c.laws_of.ensures.completed; item = b.in-Some.ensures.some }) c.requires.node.sort (omega (arith, c.laws_of.ensures.limit)) n (items_of b.first_items.new.items.items) (stack_of b.first_items.new.scratch.following.items) first.is c.requires.limit b.in_ok-first_items.ensures.following))
            | first_list-else-size-gt1 b ↦ subst (λ s. Continue (IsPartOf q i n) (list_data (items_of c.if-size-gt1.items.items)) (stack_of s.following.items)) (sym b.scratch-is) (subst (λ l. Continue (IsPartOf q i n) (list_data (items_of c.if-size-gt1.items.items)) (stack_of l)) (sym c.clear.ensures.items) tt)
          ];
      steps = elim c.if-size-gt1.branch [
        | first_list-then-size-gt1+in-Some+in_ok-first_items b ↦
            subst (λ s. Costs q c.args.meter.now s c.args.size) (sym b.meter-is)
            (costs_below q c.args.meter.now b.item.new.meter b.first_items.new.meter (c.args.size - 1) c.args.size b.item.ensures.step (omega (arith, b.if-size-gt1.true)) b.first_items.ensures.steps)
        | first_list-else-size-gt1 b ↦ subst (λ s. Costs q c.args.meter.now s c.args.size) (sym b.meter-is) (λ w wide. omega arith)
      ];
    }
