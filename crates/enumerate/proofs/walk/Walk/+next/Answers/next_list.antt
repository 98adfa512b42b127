use Rattle.std.proofs.Common.{rules, refl, sym, ap, subst, ◌∙◌, arith, ◌≡◌, ◌≢◌, ◌+◌, ◌-◌, ◌*◌, ◌≤◌, ℕ, IfNone, None, Some, [], vec_len}
use Rattle.jtree.specs.Data.{list as list_data, Items}
use Rattle.jtree.specs.Nodes.{node_count, items_count}
use Rattle.jtree.specs.Order.{tree_cmp}
use Rattle.enumerate.specs.Least.{IsNext}
use Rattle.enumerate.specs.Internal.Nodes.{site, IsPartOf, Costs}
use Rattle.enumerate.specs.Internal.Candidates.{stack_of}
use Rattle.plan.specs.Samples.Sizes.{HasMore}
use Rattle.enumerate.specs.Internal.Following.{GrownItemsContinue}
use Rattle.enumerate.proofs.walks.Costs.{costs_below, costs_within}
use Rattle.enumerate.specs.Internal.Changes.{DiffersAt}
use Rattle.enumerate.proofs.samples.Following.{list_continues}
use Rattle.jtree.specs.View.{data_of, items_of}
use Rattle.plan.specs.Samples.Part.{IsPart}
use Rattle.enumerate.specs.Internal.Steps.{CostsLastParts}
use Rattle.enumerate.specs.Internal.Moves.{AreNextItems}
use Rattle.enumerate.proofs.lists.Whole.{has_item, part_list}
use Rattle.enumerate.proofs.lists.Walks.{WereLast, all_left, walk_ended, list_moved, list_stays, no_more, some_there, empty_len, some_len}
use Rattle.enumerate.proofs.walk.Walk.+next.Given.{Over}
use Rattle.enumerate.proofs.walk.Walk.+next.Goals as goal
use Rattle.enumerate.proofs.walk.Walk.+next.Goals.{next_list-After-next_items}

list_cost : (g : Over) (t : ℕ) (c : next_list-After-next_items g t) → Costs c.args.self.now.plan.now c.args.meter.now c.next_items.new.meter (3 * node_count (data_of c.args.tree))
list_cost g t c =
    let q = c.args.self.now.plan.now in
    let m = items_count (items_of c.in-Some.items.items) in
    let count : node_count (data_of c.args.tree) ≡ 1 + m = ap node_count c.in-Some.ensures.some in
    costs_within q c.args.meter.now c.next_items.new.meter (1 + 3 * m) (3 * node_count (data_of c.args.tree)) (omega (arith, count)) (costs_below q c.args.meter.now c.item.new.meter c.next_items.new.meter (3 * m) (1 + 3 * m) c.item.ensures.step refl c.next_items.ensures.steps.0)

pub unreachable-requires : goal.next_list-unreachable-requires
unreachable-requires g t c =
    let q = c.args.self.now.plan.now in
    let i = c.args.node in
    let rule = c.laws_of.ensures.rule in
    let l = part_list q i rule c.requires.node.sort (data_of c.args.tree) c.requires.part c.requires.limit (λ null accepted. c.requires.no_null null) in
    let none = subst (λ r. IfNone r ((ds : Items) → data_of c.args.tree ≢ list_data ds)) c.in_default.is c.into_items.ensures.none in
    none l.0 l.1

pub returns-then-is_empty : goal.next_list-returns-then-is_empty
returns-then-is_empty g t c =
    record {
      ok =
          let q = c.args.self.now.plan.now in
          let i = c.args.node in
          let rule = c.laws_of.ensures.rule in
          let old = items_of c.in-Some.items.items in
          let is : data_of c.args.tree ≡ list_data old = c.in-Some.ensures.some in
          let count : node_count (data_of c.args.tree) ≡ 1 + items_count old = ap node_count is in
          let within : 1 + items_count old ≤ q.limit = omega (arith, count, c.requires.limit) in
          let none : c.in-Some.items.items ≡ [] = no_more c.in-Some.items.items (omega (arith, empty_len (vec_len c.in-Some.items) (sym c.is_empty.ensures ∙ c.if-is_empty.true), c.in-Some.items.ok.0)) in
          let no_nodes : items_count old ≡ 0 = ap (λ l. items_count (items_of l)) none in
          let last = list_stays q i rule c.requires.node.sort old within (λ ds a less. (walk_ended q i 0 old (subst (λ l. WereLast q i 0 old (items_of l)) none (all_left q i old))).0 ds a less) in
          (subst (λ d. IsNext tree_cmp (IsPartOf q i (node_count d)) d None) (sym is) last, omega (arith, count, no_nodes));
      following = tt;
      steps = (λ w wide. omega arith, λ w wide. omega arith);
    }

pub unreachable-requires-in_default-item : goal.next_list-unreachable-requires-in_default-item
unreachable-requires-in_default-item g t c =
    let q = c.args.self.now.plan.now in
    let i = c.args.node in
    let old = items_of c.in-Some.items.items in
    let is : data_of c.args.tree ≡ list_data old = c.in-Some.ensures.some in
    let count : node_count (data_of c.args.tree) ≡ 1 + items_count old = ap node_count is in
    let within : 1 + items_count old ≤ q.limit = omega (arith, count, c.requires.limit) in
    let part = subst (IsPart q.pools (site q i)) is c.requires.part in
    let some : 1 ≤ items_count old = some_there c.in-Some.items.items (λ e. some_len (vec_len c.in-Some.items) (sym c.is_empty.ensures ∙ c.if-is_empty.false) (omega (arith, e, c.in-Some.items.ok.0))) in
    let m = has_item q i old some part within in
    let none = subst (λ r. IfNone r ((m : ℕ) → HasMore q.pools q.limit (site q i) 1 m → ⊥)) c.in_default-item.is c.item.ensures.none in
    none m.0 m.1

pub next_items-requires : goal.next_list-next_items-requires
next_items-requires g t c κs within =
    let q = c.args.self.now.plan.now in
    let i = c.args.node in
    let old = items_of c.in-Some.items.items in
    let is : data_of c.args.tree ≡ list_data old = c.in-Some.ensures.some in
    let count : node_count (data_of c.args.tree) ≡ 1 + items_count old = ap node_count is in
    let part = subst (IsPart q.pools (site q i)) is c.requires.part in
    (omega (arith, c.decreases), (within, (record { node = c.requires.node.node; child = c.in-Some-item.ensures.below }, (c.in-Some-item.ensures.some, (part, omega (arith, count, c.requires.limit))))))

pub returns-in_err-depth : goal.next_list-returns-in_err-depth
returns-in_err-depth g t c =
    record { ok = search rules; following = search rules; steps = (list_cost g t (goal.at.next_list-returns-in_err-depth g t c).After-next_items, search rules) }

pub returns-in-Made : goal.next_list-returns-in-Made
returns-in-Made g t c =
    let q = c.args.self.now.plan.now in
    let i = c.args.node in
    let old = items_of c.in-Some.items.items in
    record {
      ok =
          let rule = c.laws_of.ensures.rule in
          let is : data_of c.args.tree ≡ list_data old = c.in-Some.ensures.some in
          let count : node_count (data_of c.args.tree) ≡ 1 + items_count old = ap node_count is in
          let within : 1 + items_count old ≤ q.limit = omega (arith, count, c.requires.limit) in
          let new = items_of c.next_items.new.items.items in
          let next = subst (λ s. AreNextItems s q i old new) c.in-Made.is c.in_ok-depth.ensures.ok in
          subst (λ d. IsNext tree_cmp (IsPartOf q i (node_count d)) d (Some (list_data new)) × DiffersAt c.in-Made.depth d (list_data new)) (sym is) (list_moved q i rule c.requires.node.sort old within new next.0, next.1);
      following =
          let rule = c.laws_of.ensures.rule in
          let v = data_of c.args.tree in
          let is : v ≡ list_data old = c.in-Some.ensures.some in
          let count : node_count v ≡ 1 + items_count old = ap node_count is in
          let within : 1 + items_count old ≤ q.limit = omega (arith, count, c.requires.limit) in
          let new = items_of c.next_items.new.items.items in
          let cs = stack_of c.next_items.new.scratch.following.items in
          let next = subst (λ d. IsNext tree_cmp (IsPartOf q i (node_count d)) d (Some (list_data new))) (sym is) (list_moved q i rule c.requires.node.sort old within new (subst (λ s. AreNextItems s q i old new) c.in-Made.is c.in_ok-depth.ensures.ok).0) in
          list_continues q i c.in-Some-item.child (record { rule = rule; ends = c.laws_of.ensures.completed; item = c.in-Some-item.ensures.some }) c.requires.node.sort (omega (arith, c.laws_of.ensures.limit)) (node_count v) new cs next.is.0 c.requires.limit
          (subst (λ s. GrownItemsContinue s q i c.in-Some-item.child new cs) c.in-Made.is c.in_ok-depth.ensures.following);
      steps = (list_cost g t (goal.at.next_list-returns-in-Made g t c).After-next_items, tt);
    }

pub returns-in-Last : goal.next_list-returns-in-Last
returns-in-Last g t c =
    let q = c.args.self.now.plan.now in
    record {
      ok =
          let i = c.args.node in
          let rule = c.laws_of.ensures.rule in
          let old = items_of c.in-Some.items.items in
          let is : data_of c.args.tree ≡ list_data old = c.in-Some.ensures.some in
          let count : node_count (data_of c.args.tree) ≡ 1 + items_count old = ap node_count is in
          let within : 1 + items_count old ≤ q.limit = omega (arith, count, c.requires.limit) in
          let last = subst (λ s. AreNextItems s q i old (items_of c.next_items.new.items.items)) c.in-Last.is c.in_ok-depth.ensures.ok in
          (subst (λ d. IsNext tree_cmp (IsPartOf q i (node_count d)) d None) (sym is) (list_stays q i rule c.requires.node.sort old within last.0), omega (arith, count, last.1));
      following = tt;
      steps = (
        list_cost g t (goal.at.next_list-returns-in-Last g t c).After-next_items,
        let m = items_count (items_of c.in-Some.items.items) in
            let count : node_count (data_of c.args.tree) ≡ 1 + m = ap node_count c.in-Some.ensures.some in
            costs_below q c.args.meter.now c.item.new.meter c.next_items.new.meter (2 * m) (2 * node_count (data_of c.args.tree) - 1) c.item.ensures.step (omega (arith, count)) (subst (λ s. CostsLastParts s q c.item.new.meter c.next_items.new.meter (2 * m)) c.in-Last.is c.in_ok-depth.ensures.steps.1),
      );
    }
