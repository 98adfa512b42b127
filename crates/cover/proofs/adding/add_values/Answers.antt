use Rattle.std.proofs.Common.{◌∙◌, ◌++◌, Some, sym, subst, arith, map, take}
use Rattle.std.proofs.lemmas.List.{take_all}
use Rattle.jtree.specs.View.{data_of}
use Rattle.plan.specs.Samples.Question.{Question}
use Rattle.cover.specs.Cover.{AreCovered}
use Rattle.cover.specs.View.{covered_of}
use Rattle.cover.specs.Wanted.{with_value}
use Rattle.cover.specs.Internal.Narrowed.{MayBeWanted}
use Rattle.cover.specs.Internal.Ways.{path_of}
use Rattle.cover.proofs.KnownLemmas.{grown_on, known_on, of_itself}
use Rattle.cover.proofs.LineLemmas.{more_values}
use Rattle.cover.proofs.adding.add_values.Goals as goal

pub add_wanted-requires-clause-value : goal.add_wanted-requires-clause-value
add_wanted-requires-clause-value g c =
    let p = path_of c.args.aim.steps.now in
    subst (λ (q : Question). MayBeWanted q.root q.pools (Some (data_of c.value-item.result)) p) (sym c.loop-value.invariant.plan)
    (subst (λ v. MayBeWanted c.args.plan.root c.args.plan.pools (Some (data_of v)) p) (sym c.value-item.is) (c.requires.values c.loop-value.value-index c.value-item.result (omega arith)))

pub add_wanted-requires-clause-above : goal.add_wanted-requires-clause-above
add_wanted-requires-clause-above g c =
    let p = path_of c.args.aim.steps.now in
    of_itself c.loop-value.covered p c.args.known (known_on c.args.covered.now c.loop-value.covered p c.args.known c.loop-value.invariant.grown c.requires.known)

pub loop-value-preserved : goal.loop-value-preserved
loop-value-preserved g c =
    let inv = c.loop-value.invariant in
    let xs = c.args.values.now in
    let path = c.args.aim.path.now in
    record {
      plan = c.in_ok-same.ensures.plan ∙ inv.plan;
      grown = grown_on c.args.covered.now c.loop-value.covered c.add_wanted.new.covered inv.grown c.in_ok-same.ensures.grown;
      covered = λ q wanted is covered.
          let before = wanted ++ map (with_value path) (map (λ v. data_of v) (take c.loop-value.value-index xs)) in
          subst (λ ws. AreCovered q ws (covered_of c.add_wanted.new.covered)) (more_values wanted path xs c.loop-value.value-index c.value-item.result (omega arith) c.value-item.is)
          (c.in_ok-same.ensures.adds q before (is ∙ sym inv.plan) (inv.covered q wanted is covered));
    }

pub returns-clause-adds : goal.returns-clause-adds
returns-clause-adds g c = λ q wanted is covered.
    subst (λ xs. AreCovered q (wanted ++ map (with_value c.args.aim.path.now) (map (λ v. data_of v) xs)) (covered_of c.loop-value.covered)) (take_all c.loop-value.value-index c.args.values.now (omega arith))
    (c.loop-value.invariant.covered q wanted is covered)
