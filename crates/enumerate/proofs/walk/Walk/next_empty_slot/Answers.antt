use Rattle.std.proofs.Common.{rules, ◌≡◌, ◌∙◌, ◌+◌, ◌≤◌, List, Option, ap, sym, subst, arith, length, drop}
use Rattle.std.proofs.lemmas.List.{length-drop}
use Rattle.jtree.specs.Data.{Data}
use Rattle.jtree.specs.Data.{object as object_data}
use Rattle.jtree.specs.View.{members_of}
use Rattle.enumerate.proofs.samples.Changes.{grown_differs}
use Rattle.jtree.specs.declared.value.Member.{Member}
use Rattle.plan.specs.Samples.Sizes.{Before, nothing}
use Rattle.enumerate.specs.Internal.Candidates.{used_rows, stack_of}
use Rattle.enumerate.specs.Internal.Following.{GrownContinueAt}
use Rattle.enumerate.specs.Internal.Moves.{demand_of}
use Rattle.enumerate.specs.Internal.Prefixes.{before_at, agreeing_rows}
use Rattle.enumerate.specs.Internal.Rows.{slots_from, slots_at, slots_after, slot_there, Demand, demand_at, IsGrownAt, IsOpen, FitsAt}
use Rattle.enumerate.specs.declared.row.Ahead.{Ahead}
use Rattle.enumerate.specs.declared.siblings.Rows.{Rows}
use Rattle.enumerate.specs.Internal.Walks.{demand_from, IsWalkedTo}
use Rattle.enumerate.proofs.rows.Cuts.{grown_left}
use Rattle.enumerate.proofs.rows.Slots.{one_fewer}
use Rattle.enumerate.proofs.rows.Walks.{IsLeftOut, asked_is, out_walked, walked_out, nothing_there, nothing_fits, walked_grown, walked_continue, so_many, few_at, fewer_members}
use Rattle.enumerate.specs.declared.walk.NextParts.TheVariants as parts
use Rattle.enumerate.proofs.walk.Walk.next_empty_slot.Given.{Over}
use Rattle.enumerate.proofs.walk.Walk.next_empty_slot.Goals as goal
use Rattle.enumerate.proofs.walk.Walk.next_empty_slot.Goals.{After-laws_of, In_ok-prefix, then-removed-eq0-via-then-removed-eq0, then-removed-eq0-via-else-removed-eq0+then-not-fits}

-- the slot is left out
out_of : (g : Over) (c : After-laws_of g) (gs : List (Option Data)) → IsWalkedTo c.args.self.now.plan.now c.args.here.now.node (c.args.here.now.place + 1) c.args.removed.now (used_rows c.args.used.now) c.args.members.now.items gs
    → IsLeftOut c.args.self.now.plan.now c.args.here.now.node c.laws_of.ensures.sound (used_rows c.args.used.now) c.args.here.now.place c.requires.reached.here.slot.first c.args.removed.now c.args.members.now.items gs
out_of g c gs w =
    out_walked c.args.self.now.plan.now c.args.here.now.node c.laws_of.ensures.sound (used_rows c.args.used.now) c.args.here.now.place c.requires.reached.here.slot.first c.args.removed.now c.args.members.now.items gs c.requires.reached.used w c.requires.empty

-- how many members are before it
many : (g : Over) (c : After-laws_of g) → (c.args.removed.now.room ≡ 0 → ⊥) → c.args.removed.now.before.count ≡ length c.args.members.now.items
many g c some =
    let q = c.args.self.now.plan.now in
    let gs = c.requires.reached.walked.0 in
    let out = out_of g c gs c.requires.reached.walked.1 in
    ap (λ (x : Before). x.count) (out.known some) ∙ so_many q c.args.here.now.node c.laws_of.ensures.sound (used_rows c.args.used.now) c.args.here.now.place gs c.args.members.now.items out.cut.front

few : (g : Over) (c : After-laws_of g) → length c.args.members.now.items ≤ c.args.here.now.place
few g c =
    let gs = c.requires.reached.walked.0 in
    few_at c.args.here.now.place (slots_from c.args.self.now.plan.now c.args.here.now.node 0) gs c.args.members.now.items (out_of g c gs c.requires.reached.walked.1).cut.front

pub fits-requires : goal.fits-requires
fits-requires g c =
    let l = (goal.at.fits-requires g c).After-laws_of in
    let room = many g l (λ e. omega (arith, e, c.if-removed-eq0.false)) in
    record {
      here = c.requires.reached.here;
      count = omega (arith, room, few g l);
      limit = omega (arith, room, fewer_members c.args.members.now.items, c.requires.reached.limit);
    }

pub returns-then-removed-eq0 : goal.returns-then-removed-eq0
returns-then-removed-eq0 g c = record {
  ok = (
    λ gs w.
        let q = c.args.self.now.plan.now in
        let here = c.args.here.now in
        let r = c.args.removed.now in
        let sound = c.laws_of.ensures.sound in
        let used = used_rows c.args.used.now in
        let members = c.args.members.now.items in
        let first = c.requires.reached.here.slot.first in
        let out = out_of g (goal.at.returns-then-removed-eq0 g c).After-laws_of gs w in
        walked_out q here.node sound used here.place first r members gs out (elim c.then-removed-eq0.branch [
          | then-removed-eq0-via-then-removed-eq0 b ↦ nothing_there q here.node sound used here.place first r members gs out (omega (arith, b.if-removed-eq0.true))
          | then-removed-eq0-via-else-removed-eq0+then-not-fits b ↦
              let is = out.known (λ e. omega (arith, e, b.if-removed-eq0.false)) in
              nothing_fits q here.node sound used here.place first r members gs out
              (λ n fit. let yes = b.fits.ensures.1 (n, subst (λ x. FitsAt q here x r.room n) (sym is) (subst (λ m. FitsAt q here (before_at here.place (slots_from q here.node 0) gs nothing) m n) out.room_is fit)) in let no = b.if-not-fits.true in cc)
        ]),
    tt,
  );
  following = tt;
  steps = search rules;
}

pub prefix_at-requires : goal.prefix_at-requires
prefix_at-requires g c =
    record { node = record { node = c.requires.reached.here.node; sort = c.requires.reached.here.row }; place = omega (arith, c.requires.reached.here.within); limit = omega (arith, ap (λ (l : List Member). length l) c.as_slice.ensures.value, fewer_members c.args.members.now.items, c.requires.reached.limit) }

-- what is ahead is what was removed
ahead_is : (g : Over) (c : In_ok-prefix g) (gs : List (Option Data)) → IsWalkedTo c.args.self.now.plan.now c.args.here.now.node (c.args.here.now.place + 1) c.args.removed.now (used_rows c.args.used.now) c.args.members.now.items gs
    → IsLeftOut c.args.self.now.plan.now c.args.here.now.node c.laws_of.ensures.sound (used_rows c.args.used.now) c.args.here.now.place c.requires.reached.here.slot.first c.args.removed.now c.args.members.now.items gs
    → (rows : Rows) → used_rows rows ≡ agreeing_rows c.in_ok-prefix.prefix.agreeing (used_rows c.args.used.now)
    → demand_at c.args.self.now.plan.now c.args.here.now.node (record { before = c.args.removed.now.before; room = c.args.removed.now.room; used = rows }) ≡ demand_from c.args.here.now.place (slots_from c.args.self.now.plan.now c.args.here.now.node 0) gs (demand_of c.args.self.now.plan.now c.args.here.now.node (used_rows c.args.used.now) gs)
ahead_is g c gs w out rows same =
    let prefix = c.in_ok-prefix.ensures.prefix gs w.cut.whole.are (ap members_of c.as_slice.ensures.value ∙ out.cut.front) in
    asked_is c.args.self.now.plan.now c.args.here.now.node c.laws_of.ensures.sound (used_rows c.args.used.now) c.args.here.now.place c.requires.reached.here.slot.first (record { before = c.args.removed.now.before; room = c.args.removed.now.room; used = rows }) gs
    (out.known (λ e. omega (arith, e, c.if-removed-eq0.false))) out.room_is (same ∙ prefix.rows)

pub grow_members-requires-clause-open : goal.grow_members-requires-clause-open
grow_members-requires-clause-open g c =
    let q = c.args.self.now.plan.now in
    let here = c.args.here.now in
    let gs = c.requires.reached.walked.0 in
    let w = c.requires.reached.walked.1 in
    let l = (goal.at.grow_members-requires-clause-open g c).After-laws_of in
    let room = many g l (λ e. omega (arith, e, c.if-removed-eq0.false)) in
    let out = out_of g l gs w in
    record {
      count = omega (arith, room, few g l);
      limit = omega (arith, room, fewer_members c.args.members.now.items, c.requires.reached.limit);
      can = subst (IsOpen q.pools (slots_at q here)) (sym (ahead_is g (goal.at.grow_members-requires-clause-open g c).In_ok-prefix gs w out c.rows.result c.rows.ensures)) out.can;
    }

pub returns-in_err-depth : goal.returns-in_err-depth
returns-in_err-depth g c =
    record { ok = search rules; following = search rules; steps = (λ w wide. omega (arith, one_fewer c.args.self.now.plan.now c.args.here.now.node c.args.here.now.place c.requires.reached.here.slot.first, length-drop c.args.here.now.place (slots_from c.args.self.now.plan.now c.args.here.now.node 0), c.requires.reached.here.within, c.in_ok-prefix.ensures.steps, c.grow_members.ensures.steps w wide), search rules) }

pub unreachable-requires : goal.unreachable-requires
unreachable-requires g c =
    let q = c.args.self.now.plan.now in
    let fit = c.fits.ensures.0 c.if-not-fits.false in
    let none = subst (λ st. IsGrownAt st q c.args.here.now (record { before = c.args.removed.now.before; room = c.args.removed.now.room; used = c.rows.result }) 0 c.args.members.now.items c.grow_members.new.members.items) c.in-Last.is c.in_ok-depth.ensures.ok in
    none.1 fit.0 (omega arith) fit.1

pub returns : goal.returns
returns g c =
    record {
      ok = let q = c.args.self.now.plan.now in
          let here = c.args.here.now in
          let r = c.args.removed.now in
          let members = c.args.members.now.items in
          let new = c.grow_members.new.members.items in
          let made = parts.Made c.in-Made.depth in
          let a : Ahead = record { before = r.before; room = r.room; used = c.rows.result } in
          let grown = subst (λ st. IsGrownAt st q here a 0 members new) c.in-Made.is c.in_ok-depth.ensures.ok in (
            λ gs w.
                let out = out_of g (goal.at.returns g c).After-laws_of gs w in
                let is = ahead_is g (goal.at.returns g c).In_ok-prefix gs w out c.rows.result c.rows.ensures in
                walked_grown q here.node c.laws_of.ensures.sound (used_rows c.args.used.now) here.place c.requires.reached.here.slot.first made r (demand_at q here.node a) members new gs out is grown,
            grown_differs r.room (object_data (members_of members)) made q here a 0 members new grown,
          );
      following = let q = c.args.self.now.plan.now in
          let here = c.args.here.now in
          let gs = c.requires.reached.walked.0 in
          let w = c.requires.reached.walked.1 in
          let sound = c.laws_of.ensures.sound in
          let used = used_rows c.args.used.now in
          let members = c.args.members.now.items in
          let new = c.grow_members.new.members.items in
          let cs = stack_of c.grow_members.new.scratch.following.items in
          let made = parts.Made c.in-Made.depth in
          let out = out_of g (goal.at.returns g c).After-laws_of gs w in
          let a : Ahead = record { before = c.args.removed.now.before; room = c.args.removed.now.room; used = c.rows.result } in
          let grown = subst (λ st. IsGrownAt st q here a 0 members new) c.in-Made.is c.in_ok-depth.ensures.ok in
          let left = grown_left made q.pools (slot_there q here) (slots_after q here) (demand_at q here.node a) 0 members new grown in
          let h = subst (λ st. GrownContinueAt st q here (used_rows c.rows.result) (drop (length members) new) cs) c.in-Made.is c.in_ok-depth.ensures.following in
          let is = ahead_is g (goal.at.returns g c).In_ok-prefix gs w out c.rows.result c.rows.ensures in
          walked_continue q here.node sound used here.place c.requires.reached.here.slot.first made members new gs cs out.cut left
          (subst (λ us. GrownContinueAt made q here us (drop (before_at here.place (slots_from q here.node 0) gs nothing).count new) cs) (ap (λ (d : Demand). d.used) is)
          (subst (λ n. GrownContinueAt made q here (used_rows c.rows.result) (drop n new) cs) (sym (so_many q here.node sound used here.place gs members out.cut.front)) h));
      steps = (λ w wide. omega (arith, one_fewer c.args.self.now.plan.now c.args.here.now.node c.args.here.now.place c.requires.reached.here.slot.first, length-drop c.args.here.now.place (slots_from c.args.self.now.plan.now c.args.here.now.node 0), c.requires.reached.here.within, c.in_ok-prefix.ensures.steps, c.grow_members.ensures.steps w wide), tt);
    }
