use Rattle.std.proofs.Common.{rules, refl, sym, ap, subst, ◌∙◌, arith, ◌≡◌, ◌+◌, ◌-◌, ◌*◌, ◌≤◌, ℕ, List, None, [], ◌∷◌, ◌++◌, append-nil}
use Rattle.jtree.specs.Data.{list as list_data}
use Rattle.jtree.specs.Nodes.{most_nodes, node_count, items_count}
use Rattle.jtree.specs.Order.{tree_cmp}
use Rattle.plan.specs.Samples.Candidates.{IsWidth}
use Rattle.enumerate.specs.Least.{IsNext}
use Rattle.enumerate.specs.Internal.Nodes.{Costs}
use Rattle.enumerate.specs.Internal.Candidates.{stack_of}
use Rattle.jtree.specs.declared.value.Tree.{Tree}
use Rattle.enumerate.specs.Internal.Following.{ContinueNext, GrownItemsContinue}
use Rattle.enumerate.proofs.walks.Costs.{cost_within, split_cost}
use Rattle.enumerate.proofs.samples.Changes.{differs_in_item, if_last, none_added, all_items, differs}
use Rattle.enumerate.specs.Internal.Changes.{DiffersAt}
use Rattle.enumerate.proofs.samples.Following.{item_continues}
use Rattle.enumerate.proofs.walks.Moves.{item_moved}
use Rattle.jtree.specs.View.{data_of, items_of}
use Rattle.enumerate.specs.Internal.Lists.{AreFirst, IsUnusedItem, AddsItems, AreGrown}
use Rattle.enumerate.specs.Internal.Steps.{CostsLast, KeepsMeter}
use Rattle.enumerate.specs.Internal.Moves.{IsNextTree}
use Rattle.enumerate.proofs.lists.Walks.{WereLast, IsWalked, all_left, walk_ended, front_nodes, front_first, front_unused, front_follow, front_next, front_walked, no_more}
use Rattle.enumerate.specs.declared.walk.NextTree.TheVariants as tree_next
use Rattle.enumerate.proofs.walk.Walk.+next.Given.{Over}
use Rattle.enumerate.proofs.walk.Walk.+next.Goals as goal
use Rattle.enumerate.proofs.walk.Walk.+next.Goals.{next_items-In-Some, next_items-In-To, next_items-In-Last, next_items-After-next_item}
use Rattle.enumerate.specs.declared.walk.NextParts.{NextParts}
use Rattle.enumerate.specs.declared.walk.NextParts.TheVariants as parts

-- the items in front of the one that was taken from the end
nodes_here : (g : Over) (t : ℕ) (c : next_items-In-Some g t) → items_count (items_of c.args.items.now.items) ≡ items_count (items_of c.pop.new.self.items) + (node_count (data_of c.in-Some.item) + c.loop-item.room)
nodes_here g t c = front_nodes c.args.self.now.plan.now c.args.list.now.node c.loop-item.room (items_of c.args.items.now.items) c.loop-item.items.items c.pop.new.self.items c.in-Some.item c.in-Some.ensures.items c.loop-item.invariant.last

first_here : (g : Over) (t : ℕ) (c : next_items-In-Some g t) → AreFirst c.args.self.now.plan.now c.args.list.now.node c.args.list.now.child (items_of c.pop.new.self.items)
first_here g t c =
    let q = c.args.self.now.plan.now in
    let i = c.args.list.now.node in
    let k = c.args.list.now.child in
    let old = items_of c.args.items.now.items in
    let front = c.pop.new.self.items in
    let one = c.in-Some.item in
    let within : 1 + items_count old ≤ q.limit = omega (arith, c.requires.limit) in
    let top : q.limit ≤ most_nodes = omega (arith, c.laws_of.ensures.limit) in
    front_first q i k (record { rule = c.laws_of.ensures.rule; ends = c.laws_of.ensures.completed; item = c.requires.item }) old c.requires.part within top c.loop-item.room c.loop-item.items.items front one c.in-Some.ensures.items c.loop-item.invariant.last

last_here : (g : Over) (t : ℕ) (c : next_items-In-Last g t) → IsNext tree_cmp (IsUnusedItem c.args.self.now.plan.now c.args.list.now.node c.args.list.now.child (node_count (data_of c.in-Some.item)) (items_of c.pop.new.self.items)) (data_of c.in-Some.item) None × (node_count (data_of c.in-Some.item) ≡ c.in-Last.size)
last_here g t c = item_moved c.args.self.now.plan.now c.args.list.now c.in-Some.item c.as_slice.result.now c.pop.new.self.items c.in_ok-next.field-0 (tree_next.Last c.in-Last.size) c.as_slice.ensures.value c.in-Last.is c.in_ok-next.ensures.ok

-- what grows in its place, and in that of those after it
walked_here : (g : Over) (t : ℕ) (c : next_items-In-Last g t) (st : NextParts) (now : List Tree) → AreGrown st c.args.self.now.plan.now c.args.list.now.node c.args.list.now.child (c.loop-item.room + c.in-Last.size) (c.in-Last.size + 1) c.pop.new.self.items now
    → IsWalked st c.args.self.now.plan.now c.args.list.now.node (c.loop-item.room + c.in-Last.size) (items_of c.args.items.now.items) c.pop.new.self.items now
walked_here g t c st now grown =
    let q = c.args.self.now.plan.now in
    let i = c.args.list.now.node in
    let k = c.args.list.now.child in
    let old = items_of c.args.items.now.items in
    let within : 1 + items_count old ≤ q.limit = omega (arith, c.requires.limit) in
    let top : q.limit ≤ most_nodes = omega (arith, c.laws_of.ensures.limit) in
    let last = last_here g t c in
    front_walked q i k (record { rule = c.laws_of.ensures.rule; ends = c.laws_of.ensures.completed; item = c.requires.item }) old c.requires.part within top c.loop-item.room c.loop-item.items.items c.pop.new.self.items c.in-Some.item c.in-Some.ensures.items c.loop-item.invariant.last last.0 st c.in-Last.size now last.1 grown

-- a move of the item leaves as much as it takes to grow other items in its place
item_cost : (g : Over) (t : ℕ) (c : next_items-After-next_item g t) (w : ℕ) → IsWidth c.args.self.now.plan.now w → c.next_item.new.meter + (w + 1) * c.loop-item.room ≤ c.args.meter.now + (w + 1) * (3 * items_count (items_of c.args.items.now.items))
item_cost g t c w wide =
    let n = node_count (data_of c.in-Some.item) in
    let room = c.loop-item.room in
    let all = items_count (items_of c.args.items.now.items) in
    let nodes = front_nodes c.args.self.now.plan.now c.args.list.now.node room (items_of c.args.items.now.items) c.loop-item.items.items c.pop.new.self.items c.in-Some.item c.in-Some.ensures.items c.loop-item.invariant.last in
    omega (arith, cost_within w (3 * n + (2 * room + room)) (3 * all) (omega (arith, nodes)), split_cost w (3 * n) (2 * room + room) (3 * n + (2 * room + room)) refl, split_cost w (2 * room) room (2 * room + room) refl, c.loop-item.invariant.steps w wide, c.next_item.ensures.steps.0 w wide)

-- where it has none, so much was spent on it and those after it
last_cost : (g : Over) (t : ℕ) (c : next_items-In-Last g t) (w : ℕ) → IsWidth c.args.self.now.plan.now w → c.next_item.new.meter ≤ c.args.meter.now + (w + 1) * (2 * (c.loop-item.room + c.in-Last.size))
last_cost g t c w wide =
    let q = c.args.self.now.plan.now in
    let n = node_count (data_of c.in-Some.item) in
    let room = c.loop-item.room in
    let last = last_here g t c in
    let cost = subst (λ m. CostsLast m q c.loop-item.meter c.next_item.new.meter n) c.in-Last.is c.in_ok-next.ensures.steps.1 in
    omega (arith, cost_within w (2 * room + (2 * n - 1)) (2 * (room + c.in-Last.size)) (omega (arith, last.1)), split_cost w (2 * room) (2 * n - 1) (2 * room + (2 * n - 1)) refl, c.loop-item.invariant.steps w wide, cost w wide)

-- and what grows in their place
grown_cost : (g : Over) (t : ℕ) (c : next_items-In-Last g t) (after w : ℕ) → IsWidth c.args.self.now.plan.now w → after ≤ c.next_item.new.meter + (w + 1) * (c.loop-item.room + c.in-Last.size) → after ≤ c.args.meter.now + (w + 1) * (3 * items_count (items_of c.args.items.now.items))
grown_cost g t c after w wide grown =
    let room = c.loop-item.room + c.in-Last.size in
    let all = items_count (items_of c.args.items.now.items) in
    let nodes = front_nodes c.args.self.now.plan.now c.args.list.now.node c.loop-item.room (items_of c.args.items.now.items) c.loop-item.items.items c.pop.new.self.items c.in-Some.item c.in-Some.ensures.items c.loop-item.invariant.last in
    let last = last_here g t c in
    omega (arith, cost_within w (2 * room + room) (3 * all) (omega (arith, nodes, last.1)), split_cost w (2 * room) room (2 * room + room) refl, last_cost g t c w wide, grown)

pub loop-item-init : goal.next_items-loop-item-init
loop-item-init g t c =
    record { last = all_left c.args.self.now.plan.now c.args.list.now.node (items_of c.args.items.now.items); steps = λ w wide. omega arith }

pub next_item-requires : goal.next_items-next_item-requires
next_item-requires g t c κs within-it =
    let q = c.args.self.now.plan.now in
    let i = c.args.list.now.node in
    let k = c.args.list.now.child in
    let old = items_of c.args.items.now.items in
    let front = c.pop.new.self.items in
    let one = c.in-Some.item in
    let within : 1 + items_count old ≤ q.limit = omega (arith, c.requires.limit) in
    let top : q.limit ≤ most_nodes = omega (arith, c.laws_of.ensures.limit) in
    let nodes = nodes_here g t (goal.at.next_items-next_item-requires g t c).In-Some in (
      omega (arith, c.decreases),
      (
        within-it,
        (
          c.requires.list,
          (
            subst (λ l. AreFirst q i k (items_of l)) (sym c.as_slice.ensures.value) (first_here g t (goal.at.next_items-next_item-requires g t c).In-Some),
            (
              subst (λ l. IsUnusedItem q i k (node_count (data_of one)) (items_of l) (data_of one)) (sym c.as_slice.ensures.value) (front_unused q i k (record { rule = c.laws_of.ensures.rule; ends = c.laws_of.ensures.completed; item = c.requires.item }) old c.requires.part within top c.loop-item.room c.loop-item.items.items front one c.in-Some.ensures.items c.loop-item.invariant.last),
              omega (arith, nodes, within, ap (λ l. items_count (items_of l)) c.as_slice.ensures.value),
            ),
          ),
        ),
      ),
    )

pub returns-in_err-next : goal.next_items-returns-in_err-next
returns-in_err-next g t c =
    record { ok = search rules; following = search rules; steps = (λ w wide. omega (arith, item_cost g t (goal.at.next_items-returns-in_err-next g t c).After-next_item w wide), search rules) }

-- the next item, after the same items
next_here : (g : Over) (t : ℕ) (c : next_items-In-To g t) → IsNextTree (IsUnusedItem c.args.self.now.plan.now c.args.list.now.node c.args.list.now.child (node_count (data_of c.in-Some.item)) (items_of c.pop.new.self.items)) (data_of c.in-Some.item) (tree_next.To c.in-To.next c.in-To.depth)
next_here g t c = item_moved c.args.self.now.plan.now c.args.list.now c.in-Some.item c.as_slice.result.now c.pop.new.self.items c.in_ok-next.field-0 (tree_next.To c.in-To.next c.in-To.depth) c.as_slice.ensures.value c.in-To.is c.in_ok-next.ensures.ok

pub levels_down-depth-requires : goal.next_items-levels_down-depth-requires
levels_down-depth-requires g t c =
    let next = next_here g t (goal.at.next_items-levels_down-depth-requires g t c).In-To in
    let nodes = nodes_here g t (goal.at.next_items-levels_down-depth-requires g t c).In-Some in
    omega (arith, next.1.few, nodes, c.requires.limit, c.laws_of.ensures.limit)

pub put_item-requires : goal.next_items-put_item-requires
put_item-requires g t c =
    let q = c.args.self.now.plan.now in
    let i = c.args.list.now.node in
    let k = c.args.list.now.child in
    let front = c.pop.new.self.items in
    let next = c.in-To.next in
    let to = next_here g t (goal.at.next_items-put_item-requires g t c).In-To in
    record {
      list = c.requires.list;
      follow =
          let old = items_of c.args.items.now.items in
          let within : 1 + items_count old ≤ q.limit = omega (arith, c.requires.limit) in
          let top : q.limit ≤ most_nodes = omega (arith, c.laws_of.ensures.limit) in
          front_follow q i k (record { rule = c.laws_of.ensures.rule; ends = c.laws_of.ensures.completed; item = c.requires.item }) old c.requires.part within top c.loop-item.room c.loop-item.items.items front c.in-Some.item c.in-Some.ensures.items c.loop-item.invariant.last next (front ++ next ∷ []) to.0 refl;
      following =
          let one = data_of c.in-Some.item in
          let cs = stack_of c.next_item.new.scratch.following.items in
          let C = λ (l : List Tree). IsUnusedItem q i k (node_count one) (items_of l) in
          let continue = subst (λ l. ContinueNext (C l) (tree_next.To next c.in-To.depth) cs) c.as_slice.ensures.value (subst (λ m. ContinueNext (C c.as_slice.result.now) m cs) c.in-To.is c.in_ok-next.ensures.following) in
          item_continues q c.args.list.now (node_count one) front (front ++ next ∷ []) next cs refl to.0.is.0.part.nodes_are continue;
    }

pub returns-in_err-put_item-in-To : goal.next_items-returns-in_err-put_item-in-To
returns-in_err-put_item-in-To g t c =
    record { ok = search rules; following = search rules; steps = (λ w wide. omega (arith, item_cost g t (goal.at.next_items-returns-in_err-put_item-in-To g t c).After-next_item w wide, c.put_item.ensures.steps w wide), search rules) }

pub returns-in-To : goal.next_items-returns-in-To
returns-in-To g t c =
    let q = c.args.self.now.plan.now in
    let i = c.args.list.now.node in
    let k = c.args.list.now.child in
    let old = c.args.items.now.items in
    let left = c.loop-item.items.items in
    let front = c.pop.new.self.items in
    let one = c.in-Some.item in
    let next = c.in-To.next in
    let depth = c.in-To.depth in
    let new = c.put_item.new.items.items in
    let adds = c.in_ok-put_item-in-To.ensures.ok in
    let to = next_here g t (goal.at.next_items-returns-in-To g t c).In-To in
    record {
      ok =
          let within : 1 + items_count (items_of old) ≤ q.limit = omega (arith, c.requires.limit) in
          let top : q.limit ≤ most_nodes = omega (arith, c.laws_of.ensures.limit) in (
            front_next q i k (record { rule = c.laws_of.ensures.rule; ends = c.laws_of.ensures.completed; item = c.requires.item }) (items_of old) c.requires.part within top c.loop-item.room left front one c.in-Some.ensures.items c.loop-item.invariant.last next new to.0 adds,
            if_last c.loop-item.room depth c.levels_down-depth.result (list_data (items_of old)) (list_data (items_of new)) c.levels_down-depth.ensures.last c.levels_down-depth.ensures.other (λ empty.
                let all = all_items q i (items_of old) (items_of left) (subst (λ n. WereLast q i n (items_of old) (items_of left)) empty c.loop-item.invariant.last) in
                let added = subst (λ n. AddsItems q i n (front ++ next ∷ []) new) empty adds in
                let none = none_added added.added added.least.is.nodes_are in
                let is : new ≡ front ++ next ∷ [] = added.is ∙ (ap (λ l. (front ++ next ∷ []) ++ l) none ∙ append-nil (front ++ next ∷ [])) in
                subst (λ ds. DiffersAt (depth + 1) (list_data ds) (list_data (items_of new))) (sym all) (differs_in_item depth front left new one next c.in-Some.ensures.items is to.1)),
          );
      following = c.in_ok-put_item-in-To.ensures.following;
      steps = (λ w wide. omega (arith, item_cost g t (goal.at.next_items-returns-in-To g t c).After-next_item w wide, c.put_item.ensures.steps w wide), tt);
    }

pub grow_larger_items-requires : goal.next_items-grow_larger_items-requires
grow_larger_items-requires g t c =
    let q = c.args.self.now.plan.now in
    let old = items_of c.args.items.now.items in
    let within : 1 + items_count old ≤ q.limit = omega (arith, c.requires.limit) in
    record {
      list = c.requires.list;
      first = first_here g t (goal.at.next_items-grow_larger_items-requires g t c).In-Some;
      within =
          let nodes = nodes_here g t (goal.at.next_items-grow_larger_items-requires g t c).In-Some in
          let last = last_here g t (goal.at.next_items-grow_larger_items-requires g t c).In-Last in
          omega (arith, nodes, last.1, within);
    }

pub returns-in_err-depth-in-Last : goal.next_items-returns-in_err-depth-in-Last
returns-in_err-depth-in-Last g t c =
    record { ok = search rules; following = search rules; steps = (λ w wide. grown_cost g t (goal.at.next_items-returns-in_err-depth-in-Last g t c).In-Last c.grow_larger_items.new.meter w wide (c.grow_larger_items.ensures.steps w wide), search rules) }

pub returns-in-Made : goal.next_items-returns-in-Made
returns-in-Made g t c =
    let q = c.args.self.now.plan.now in
    record {
      ok =
          let size = c.in-Last.size in
          let now = c.grow_larger_items.new.items.items in
          let grown = subst (λ s. AreGrown s q c.args.list.now.node c.args.list.now.child (c.loop-item.room + size) (size + 1) c.pop.new.self.items now) c.in-Made.is c.in_ok-depth-in-Last.ensures.ok in
          let walked = walked_here g t (goal.at.next_items-returns-in-Made g t c).In-Last (parts.Made c.in-Made.depth) now grown in
          let old = list_data (items_of c.args.items.now.items) in
          let new = list_data (items_of now) in
          (walked.0, subst (λ n. DiffersAt n old new) (sym walked.1) (differs old new));
      following = subst (λ s. GrownItemsContinue s q c.args.list.now.node c.args.list.now.child (items_of c.grow_larger_items.new.items.items) (stack_of c.grow_larger_items.new.scratch.following.items)) c.in-Made.is c.in_ok-depth-in-Last.ensures.following;
      steps = (λ w wide. grown_cost g t (goal.at.next_items-returns-in-Made g t c).In-Last c.grow_larger_items.new.meter w wide (c.grow_larger_items.ensures.steps w wide), tt);
    }

pub loop-item-preserved : goal.next_items-loop-item-preserved
loop-item-preserved g t c =
    let q = c.args.self.now.plan.now in
    let i = c.args.list.now.node in
    let size = c.in-Last.size in
    let old = items_of c.args.items.now.items in
    let now = c.grow_larger_items.new.items.items in
    let grown = subst (λ s. AreGrown s q i c.args.list.now.child (c.loop-item.room + size) (size + 1) c.pop.new.self.items now) c.in-Last-2.is c.in_ok-depth-in-Last.ensures.ok in
    let kept = subst (λ s. KeepsMeter s c.next_item.new.meter c.grow_larger_items.new.meter) c.in-Last-2.is c.in_ok-depth-in-Last.ensures.last in
    let walked = walked_here g t (goal.at.next_items-loop-item-preserved g t c).In-Last (parts.Last c.in-Last-2.nodes) now grown in
    record {
      last = subst (λ n. WereLast q i n old (items_of now)) (sym grown.2) walked.1;
      steps = subst (λ n. Costs q c.args.meter.now c.grow_larger_items.new.meter (2 * n)) (sym grown.2) (λ w wide. omega (arith, last_cost g t (goal.at.next_items-loop-item-preserved g t c).In-Last w wide, kept));
    }

pub returns : goal.next_items-returns
returns g t c =
    let none : c.loop-item.items.items ≡ [] = no_more c.loop-item.items.items (omega (arith, (rw c.in_default.is at c.pop.ensures.cases).0, c.loop-item.items.ok.0)) in
    let all = walk_ended c.args.self.now.plan.now c.args.list.now.node c.loop-item.room (items_of c.args.items.now.items) (subst (λ l. WereLast c.args.self.now.plan.now c.args.list.now.node c.loop-item.room (items_of c.args.items.now.items) (items_of l)) none c.loop-item.invariant.last) in
    record {
      ok = all;
      following = tt;
      steps = (λ w wide. omega (arith, cost_within w (2 * c.loop-item.room) (3 * items_count (items_of c.args.items.now.items)) (omega (arith, all.1)), c.loop-item.invariant.steps w wide), subst (λ n. Costs c.args.self.now.plan.now c.args.meter.now c.loop-item.meter (2 * n)) (sym all.1) c.loop-item.invariant.steps);
    }
