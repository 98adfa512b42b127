use Rattle.std.proofs.Common.{◌+◌, ◌++◌, ◌∷◌, [], Some, None, true, subst, arith, length-append}
use Rattle.jtree.specs.View.{data_of}
use Rattle.enumerate.proofs.pages.Lemmas.{lent_nothing, lent_more, lends_full, lends_last}
use Rattle.enumerate.proofs.pages.Laws.{lends_part, lends_part_with}
use Rattle.enumerate.specs.Live.{IsNextSample}
use Rattle.enumerate.specs.Internal.Current.{Advances}
use Rattle.enumerate.proofs.samples.Current.{where_err, needed, can_change, advance_within}
use Rattle.enumerate.proofs.current.Current.lend.Goals as goal

pub samples-init : goal.samples-init
samples-init g c = record {
  current = record { sample = c.requires.sample; continue = c.requires.continue };
  lent = lent_nothing c.args.walk.now.plan.now (Some (data_of c.args.self.now.tree)) c.args.count (g.T.Taker.has_taken c.args.taker.now c.args.taker.now) (g.T.Taker.none_taken c.args.taker.now);
  before = tt;
  short = omega arith;
  steps = λ w wide. omega arith;
}

pub take-requires : goal.take-requires
take-requires g c = needed (g.T.Taker.has_taken) c.args.taker.now c.samples.taker (data_of c.samples.self.tree) c.samples.self.change c.samples.invariant.before

pub returns-in_err-take-clause-part : goal.returns-in_err-take-clause-part
returns-in_err-take-clause-part g c =
    where_err c.from_residual.result _ (λ after start.
    let q = c.args.walk.now.plan.now in
    let first = Some (data_of c.args.self.now.tree) in
    let v = data_of c.samples.self.tree in
    let l = c.samples.invariant.lent in
    lends_part q first after c.args.count c.samples.lent start (Some v) (g.T.Taker.has_taken c.args.taker.now c.samples.taker) (g.T.Taker.has_taken c.args.taker.now c.take.new.self) (c.in_err-take.ensures.err c.args.taker.now) l)

pub returns-in_err-take-clause-taken : goal.returns-in_err-take-clause-taken
returns-in_err-take-clause-taken g c = let l = c.samples.invariant.lent in (l.items, c.in_err-take.ensures.err c.args.taker.now l.items l.taken, omega (arith, l.counted, c.samples.invariant.short))

pub advance-requires : goal.advance-requires
advance-requires g c = c.samples.invariant.current

pub returns-in_err-advance-clause-part : goal.returns-in_err-advance-clause-part
returns-in_err-advance-clause-part g c =
    where_err c.from_residual-in_err-advance.result _ (λ after start.
    let q = c.args.walk.now.plan.now in
    let first = Some (data_of c.args.self.now.tree) in
    let v = data_of c.samples.self.tree in
    let l = c.samples.invariant.lent in
    lends_part_with q first after c.args.count c.samples.lent start (g.T.Taker.has_taken c.args.taker.now c.samples.taker) (g.T.Taker.has_taken c.args.taker.now c.take.new.self) v (c.in_ok-take.ensures.ok c.args.taker.now) (omega (arith, c.samples-test.true)) l)

pub returns-in_err-advance-clause-taken : goal.returns-in_err-advance-clause-taken
returns-in_err-advance-clause-taken g c =
    let l = c.samples.invariant.lent in
    let one = data_of c.samples.self.tree ∷ [] in
    (l.items ++ one, c.in_ok-take.ensures.ok c.args.taker.now l.items l.taken, omega (arith, l.counted, c.samples-test.true, length-append l.items one))

pub returns-then-not-branch-clause-page : goal.returns-then-not-branch-clause-page
returns-then-not-branch-clause-page g c = λ after start.
    let q = c.args.walk.now.plan.now in
    let first = Some (data_of c.args.self.now.tree) in
    let v = data_of c.samples.self.tree in
    let l = c.samples.invariant.lent in
    let ended : IsNextSample q (Some v) None = subst (Advances q c.samples.self c.advance.new.self) c.if-not-branch.true c.in_ok-advance.ensures.ok in
    let more = lent_more q first c.args.count c.samples.lent (g.T.Taker.has_taken c.args.taker.now c.samples.taker) (g.T.Taker.has_taken c.args.taker.now c.take.new.self) v None (c.in_ok-take.ensures.ok c.args.taker.now) (omega (arith, c.samples-test.true)) ended l in
    lends_last q first c.args.count (c.samples.lent + 1) (g.T.Taker.has_taken c.args.taker.now c.take.new.self) c.args.meter.now c.advance.new.meter
    (λ w wide. omega (arith, c.samples.invariant.steps w wide, advance_within q c.samples.meter c.advance.new.meter c.advance.ensures.steps w wide)) more after start

pub returns-then-not-branch-clause-taken : goal.returns-then-not-branch-clause-taken
returns-then-not-branch-clause-taken g c =
    let l = c.samples.invariant.lent in
    let one = data_of c.samples.self.tree ∷ [] in
    (l.items ++ one, c.in_ok-take.ensures.ok c.args.taker.now l.items l.taken, omega (arith, l.counted, c.samples-test.true, length-append l.items one))

pub samples-preserved : goal.samples-preserved
samples-preserved g c =
    let q = c.args.walk.now.plan.now in
    let first = Some (data_of c.args.self.now.tree) in
    let v = data_of c.samples.self.tree in
    let l = c.samples.invariant.lent in
    let old = g.T.Taker.has_taken c.args.taker.now c.samples.taker in
    let new = g.T.Taker.has_taken c.args.taker.now c.take.new.self in
    let to : Advances q c.samples.self c.advance.new.self true = subst (Advances q c.samples.self c.advance.new.self) c.if-not-branch.false c.in_ok-advance.ensures.ok in
    record {
      current = to.1;
      lent = lent_more q first c.args.count c.samples.lent old new v (Some (data_of c.advance.new.self.tree)) (c.in_ok-take.ensures.ok c.args.taker.now) (omega (arith, c.samples-test.true)) to.0 l;
      before = can_change q c.samples.self c.advance.new.self new l.items to (c.in_ok-take.ensures.ok c.args.taker.now l.items l.taken);
      short = omega (arith, c.samples-test.true);
      steps = λ w wide. omega (arith, c.samples.invariant.steps w wide, advance_within q c.samples.meter c.advance.new.meter c.advance.ensures.steps w wide);
    }

pub returns-clause-page : goal.returns-clause-page
returns-clause-page g c = λ after start.
    let q = c.args.walk.now.plan.now in
    let first = Some (data_of c.args.self.now.tree) in
    let v = data_of c.samples.self.tree in
    let l = c.samples.invariant.lent in
    lends_full q first c.args.count c.samples.lent (g.T.Taker.has_taken c.args.taker.now c.samples.taker) c.args.meter.now c.samples.meter c.samples.invariant.steps v (omega (arith, c.samples-test.false, c.samples.invariant.short)) l after start

pub returns-clause-taken : goal.returns-clause-taken
returns-clause-taken g c = let l = c.samples.invariant.lent in (l.items, l.taken, omega (arith, l.counted, c.samples.invariant.short))

pub returns-clause-current : goal.returns-clause-current
returns-clause-current g c = λ no. c.samples.invariant.current
