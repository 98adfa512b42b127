use Rattle.std.proofs.Common.{ℕ, sym, ap, subst, ◌∙◌, arith, ◌≡◌, [], false, filter}
use Rattle.std.proofs.lemmas.Result.{IfOk-weaker}
use Rattle.jtree.specs.Data.{Data}
use Rattle.jtree.specs.Nodes.{node_count}
use Rattle.enumerate.specs.Internal.Nodes.{IsPartOf}
use Rattle.enumerate.specs.Internal.Candidates.{stack_of, IsFreeKey, used_rows}
use Rattle.enumerate.specs.Internal.Rows.{slots_after, slot_there, IsValue, used_keys}
use Rattle.plan.specs.Samples.NoDeadEnd.{is_key, HasFree}
use Rattle.enumerate.specs.Internal.Following.{ContinueNext}
use Rattle.enumerate.proofs.walks.Costs.{costs_thrice, costs_less}
use Rattle.enumerate.proofs.samples.Following.{moved_continues_same}
use Rattle.enumerate.proofs.rows.Lemmas.{still_used_other}
use Rattle.enumerate.proofs.rows.Slots.{IsPlainOf, IsKeyOf, key_of, part_is_value, key_is_value}
use Rattle.enumerate.proofs.lists.Lemmas.{some_nodes}
use Rattle.enumerate.proofs.rows.SlotMoves.{key_moved, part_moved}
use Rattle.jtree.specs.View.{data_of}
use Rattle.plan.specs.Samples.Part.{IsPart}
use Rattle.plan.specs.Samples.Candidates.{sort_of}
use Rattle.enumerate.specs.Internal.Moves.{IsNextTree}
use Rattle.enumerate.proofs.walks.Membership.{lighter}
use Rattle.enumerate.proofs.walk.Walk.+next.Goals.{next_value-Then-here}
use Rattle.enumerate.proofs.walk.Walk.+next.Given.{Over}
use Rattle.enumerate.proofs.walk.Walk.+next.Goals as goal

-- the slot is a key
key_here : (g : Over) (t : ℕ) (c : next_value-Then-here g t) → IsKeyOf c.args.self.now.plan.now c.args.here.now.slot.node (slot_there c.args.self.now.plan.now c.args.here.now) (slots_after c.args.self.now.plan.now c.args.here.now) (used_rows c.args.used.now) c.args.here.now.slot.later
key_here g t c = key_of c.args.self.now.plan.now c.args.here.now.node c.args.here.now.place c.args.here.now.slot (used_rows c.args.used.now) c.laws_of.ensures.sound c.laws_of.ensures.free c.requires.here.slot c.if-here.true c.requires.known

pub next_key-requires : goal.next_value-next_key-requires
next_key-requires g t c =
    let k = key_here g t (goal.at.next_value-next_key-requires g t c).Then-here in
    record {
      node = record { node = omega (arith, c.requires.here.slot.below, c.requires.here.node); sort = ap (λ x. sort_of x) k.node ∙ k.slot.leaf };
      limit = c.requires.limit;
    }

pub returns-then-here : goal.next_value-returns-then-here
returns-then-here g t c =
    let q = c.args.self.now.plan.now in
    let s = c.args.here.now.slot in
    let here = slot_there q c.args.here.now in
    let after = slots_after q c.args.here.now in
    let used = used_rows c.args.used.now in
    let v = data_of c.args.tree in
    let n = node_count v in
    let k = key_here g t (goal.at.next_value-returns-then-here g t c).Then-here in
    record {
      ok = IfOk-weaker c.next_key.result _ _ (λ m h. key_moved q s.node here after used n v m s.later k (subst (λ l. IsNextTree (IsFreeKey q s.node n l used s.later) v m) c.requires.here.slot.name h)) c.next_key.ensures.ok;
      following =
          let law = λ (u : Data). key_is_value q s.node here after used s.later k n u in
          let cs = stack_of c.next_key.new.scratch.following.items in
          IfOk-weaker c.next_key.result _ _ (λ m h. moved_continues_same (IsFreeKey q s.node n here.name used s.later) (IsValue q.pools here after used n) m cs (λ u. (law u).0) (λ u. (law u).1)
          (subst (λ l. ContinueNext (IsFreeKey q s.node n l used s.later) m cs) c.requires.here.slot.name h)) c.next_key.ensures.following;
      steps = (costs_thrice q c.args.meter.now c.next_key.new.meter n (some_nodes v) c.next_key.ensures.steps, IfOk-weaker c.next_key.result _ _ (λ m h. costs_less q m c.args.meter.now c.next_key.new.meter n (some_nodes v) c.next_key.ensures.steps) c.next_key.ensures.ok);
    }

pub next_part-requires : goal.next_value-next_part-requires
next_part-requires g t c κs within =
    let q = c.args.self.now.plan.now in (
      omega (arith, c.decreases, lighter q c.args.here.now.slot.node c.args.here.now.node c.requires.here.slot.below),
      (
        within,
        (
          omega (arith, c.requires.here.slot.below, c.requires.here.node),
          (subst (λ s. IsPart q.pools s (data_of c.args.tree)) (sym c.requires.here.slot.node) c.requires.value.part, c.requires.limit),
        ),
      ),
    )

pub returns : goal.next_value-returns
returns g t c =
    let q = c.args.self.now.plan.now in
    let s = c.args.here.now.slot in
    let here = slot_there q c.args.here.now in
    let after = slots_after q c.args.here.now in
    let used = used_rows c.args.used.now in
    let v = data_of c.args.tree in
    let n = node_count v in
    let other : here.key ≡ false = sym c.requires.here.slot.key ∙ c.if-here.false in
    let free = subst (λ us. HasFree q.pools (filter is_key after) (used_keys after us) []) (still_used_other here after other v used) c.requires.value.free in
    let plain : IsPlainOf q s.node here after used = record { node = c.requires.here.slot.node; other = other; free = free } in
    record {
      ok = IfOk-weaker c.next_part.result _ _ (λ m h. part_moved q s.node here after used n v m plain h) c.next_part.ensures.ok;
      following =
          let law = λ (u : Data). part_is_value q s.node here after used n u plain in
          IfOk-weaker c.next_part.result _ _ (λ m h. moved_continues_same (IsPartOf q s.node n) (IsValue q.pools here after used n) m (stack_of c.next_part.new.scratch.following.items) (λ u. (law u).0) (λ u. (law u).1) h) c.next_part.ensures.following;
      steps = c.next_part.ensures.steps;
    }
