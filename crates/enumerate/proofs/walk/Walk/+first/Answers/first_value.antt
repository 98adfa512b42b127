use Rattle.std.proofs.lemmas.Result.{IfOk-weaker}
use Rattle.std.proofs.Common.{ℕ, false, filter, sym, ap, subst, ◌∙◌, arith, ◌≡◌, []}
use Rattle.plan.specs.Samples.NoDeadEnd.{is_key, HasFree}
use Rattle.enumerate.specs.Internal.Following.{Continue}
use Rattle.enumerate.specs.Internal.Rows.{IsValue, used_keys, slots_after, slot_there}
use Rattle.enumerate.proofs.samples.Following.{continue_same}
use Rattle.enumerate.proofs.rows.Lemmas.{free_out}
use Rattle.enumerate.proofs.rows.Slots.{IsPlainOf, IsKeyOf, key_of, part_is_value, key_is_value, some_key, key_value, part_value}
use Rattle.enumerate.proofs.walks.Membership.{lighter}
use Rattle.enumerate.proofs.walks.Costs.{costs_within}
use Rattle.plan.specs.Samples.Sizes.{HasSize}
use Rattle.enumerate.specs.Internal.Candidates.{IsFreeKey, stack_of, used_rows}
use Rattle.enumerate.proofs.lists.Lemmas.{some_size}
use Rattle.jtree.specs.Data.{Data}
use Rattle.jtree.specs.Order.{tree_cmp}
use Rattle.jtree.specs.View.{data_of}
use Rattle.plan.specs.Samples.Candidates.{sort_of}
use Rattle.enumerate.specs.Least.{IsLeast}
use Rattle.enumerate.specs.Internal.Nodes.{IsPartOf}
use Rattle.enumerate.proofs.walk.Walk.+first.Goals.{first_value-Then-here}
use Rattle.enumerate.proofs.walk.Walk.+first.Given.{Over}
use Rattle.enumerate.proofs.walk.Walk.+first.Goals as goal

-- the slot is a key
key_here : (g : Over) (t : ℕ) (c : first_value-Then-here g t) → IsKeyOf c.args.self.now.plan.now c.args.here.now.slot.node (slot_there c.args.self.now.plan.now c.args.here.now) (slots_after c.args.self.now.plan.now c.args.here.now) (used_rows c.args.used.now) c.args.here.now.slot.later
key_here g t c = key_of c.args.self.now.plan.now c.args.here.now.node c.args.here.now.place c.args.here.now.slot (used_rows c.args.used.now) c.laws_of.ensures.sound c.laws_of.ensures.free c.requires.here.slot c.if-here.true c.requires.known

pub first_key-requires : goal.first_value-first_key-requires
first_key-requires g t c =
    let q = c.args.self.now.plan.now in
    let here = c.args.here.now in
    let used = used_rows c.args.used.now in
    let k = key_here g t (goal.at.first_value-first_key-requires g t c).Then-here in
    record {
      node = record { node = omega (arith, c.requires.here.slot.below, c.requires.here.node); sort = ap (λ x. sort_of x) k.node ∙ k.slot.leaf };
      limit = c.requires.limit;
      free =
          let size = subst (λ x. HasSize q.pools x c.args.size) k.node c.requires.size in
          let free = subst (λ ss. HasFree q.pools (filter is_key ss) (used_keys ss used) []) c.requires.here.slot.first c.requires.free in
          subst (λ n. (v : Data) × IsFreeKey q here.slot.node c.args.size n used here.slot.later v) (sym c.requires.here.slot.name) (some_key q here.slot.node (slot_there q here) (slots_after q here) used here.slot.later k c.args.size size free);
    }

pub returns-then-here : goal.first_value-returns-then-here
returns-then-here g t c =
    let q = c.args.self.now.plan.now in
    let s = c.args.here.now.slot in
    let here = slot_there q c.args.here.now in
    let after = slots_after q c.args.here.now in
    let used = used_rows c.args.used.now in
    let n = c.args.size in
    let k = key_here g t (goal.at.first_value-returns-then-here g t c).Then-here in
    record {
      ok = IfOk-weaker c.first_key.result _ _ (λ v h. key_value q s.node here after used s.later k n (data_of v) (subst (λ l. IsLeast tree_cmp (IsFreeKey q s.node n l used s.later) (data_of v)) c.requires.here.slot.name h)) c.first_key.ensures.ok;
      following =
          let law = λ (u : Data). key_is_value q s.node here after used s.later k n u in
          let cs = stack_of c.first_key.new.scratch.following.items in
          IfOk-weaker c.first_key.result _ _ (λ v h. continue_same (IsFreeKey q s.node n here.name used s.later) (IsValue q.pools here after used n) (data_of v) cs (λ u. (law u).0) (λ u. (law u).1)
          (subst (λ l. Continue (IsFreeKey q s.node n l used s.later) (data_of v) cs) c.requires.here.slot.name h)) c.first_key.ensures.following;
      steps = costs_within q c.args.meter.now c.first_key.new.meter 1 c.args.size (some_size c.requires.size) c.first_key.ensures.steps;
    }

pub first_part-requires : goal.first_value-first_part-requires
first_part-requires g t c κs within =
    (omega (arith, c.decreases, lighter c.args.self.now.plan.now c.args.here.now.slot.node c.args.here.now.node c.requires.here.slot.below), (within, (omega (arith, c.requires.here.slot.below, c.requires.here.node), (c.requires.size, c.requires.limit))))

pub returns : goal.first_value-returns
returns g t c =
    let q = c.args.self.now.plan.now in
    let s = c.args.here.now.slot in
    let here = slot_there q c.args.here.now in
    let after = slots_after q c.args.here.now in
    let used = used_rows c.args.used.now in
    let n = c.args.size in
    let other : here.key ≡ false = sym c.requires.here.slot.key ∙ c.if-here.false in
    let free = subst (λ ss. HasFree q.pools (filter is_key ss) (used_keys ss used) []) c.requires.here.slot.first c.requires.free in
    let plain : IsPlainOf q s.node here after used = record { node = c.requires.here.slot.node; other = other; free = free_out q.pools here after used other free } in
    record {
      ok = IfOk-weaker c.first_part.result _ _ (λ v h. part_value q s.node here after used n (data_of v) plain h) c.first_part.ensures.ok;
      following =
          let law = λ (u : Data). part_is_value q s.node here after used n u plain in
          IfOk-weaker c.first_part.result _ _ (λ v h. continue_same (IsPartOf q s.node n) (IsValue q.pools here after used n) (data_of v) (stack_of c.first_part.new.scratch.following.items) (λ u. (law u).0) (λ u. (law u).1) h) c.first_part.ensures.following;
      steps = c.first_part.ensures.steps;
    }
