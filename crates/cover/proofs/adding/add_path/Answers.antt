use Rattle.std.proofs.Common.{◌∙◌, ◌++◌, ◌∷◌, [], Some, All, ap, append_assoc, map, option_map, subst, sym, take}
use Rattle.std.proofs.lemmas.List.Elements.{All-push, All-take}
use Rattle.jtree.specs.View.{data_of}
use Rattle.explain.specs.Fields.Declared.{IsDeclared}
use Rattle.explain.specs.Fields.PathFault.{IsTextOf}
use Rattle.explain.specs.Paths.PathText.{path_text}
use Rattle.plan.specs.Samples.Question.{Question}
use Rattle.cover.specs.Cover.{AreCovered}
use Rattle.cover.specs.View.{covered_of}
use Rattle.cover.specs.Wanted.{AreValuesOf, with_any, with_value}
use Rattle.cover.specs.Internal.Known.{AreKnown, IsKnown, IsKnownAbove}
use Rattle.cover.specs.Internal.Narrowed.{MayBeWanted}
use Rattle.cover.specs.Internal.Ways.{path_of}
use Rattle.cover.specs.declared.known.Front.{Front}
use Rattle.cover.proofs.KnownLemmas.{grown_on, known_on, are_known_on}
use Rattle.cover.proofs.LineLemmas.{steps_declared}
use Rattle.cover.proofs.adding.add_path.Goals as goal

pub values_of-requires : goal.values_of-requires
values_of-requires g c = subst (λ r. IsTextOf (IsDeclared r) c.args.path.now) (sym c.schema.ensures) c.requires.declared

pub steps_of-requires : goal.steps_of-requires
steps_of-requires g c = subst (λ r. IsTextOf (IsDeclared r) c.args.path.now) (sym c.schema-2.ensures) c.requires.declared

pub add_wanted-requires-clause-declared : goal.add_wanted-requires-clause-declared
add_wanted-requires-clause-declared g c =
    let steps = ap (λ s. s.now) c.with_any-aim.ensures.1 ∙ c.as_slice.ensures.value in
    let text = ap (λ xs. path_text (path_of xs)) steps ∙ c.in_ok-steps.ensures in
    steps_declared c.paths_have_one_text.ensures c.args.plan.root (path_of c.with_any-aim.result.steps.now) c.args.path.now text c.requires.declared

pub add_wanted-requires-clause-above : goal.add_wanted-requires-clause-above
add_wanted-requires-clause-above g c =
    let steps = ap (λ s. s.now) c.with_any-aim.ensures.1 ∙ (c.as_slice.ensures.value ∙ sym c.as_slice-2.ensures.value) in
    subst (λ xs. IsKnownAbove c.args.covered.now (path_of xs) c.known_above-above.result) (sym steps) (c.known_above-above.ensures.above c.args.covered.now c.requires.known)

pub add_values-requires-clause-declared : goal.add_values-requires-clause-declared
add_values-requires-clause-declared g c =
    let steps = ap (λ s. s.now) c.with_any-aim.ensures.1 ∙ c.as_slice.ensures.value in
    let text = ap (λ xs. path_text (path_of xs)) steps ∙ c.in_ok-steps.ensures in
    let p = path_of c.with_any-aim.result.steps.now in
    subst (λ (q : Question). IsDeclared q.root p) (sym c.in_ok-plan.ensures.plan) (steps_declared c.paths_have_one_text.ensures c.args.plan.root p c.args.path.now text c.requires.declared)

pub add_values-requires-clause-values : goal.add_values-requires-clause-values
add_values-requires-clause-values g c =
    let steps = ap (λ s. s.now) c.with_any-aim.ensures.1 ∙ c.as_slice.ensures.value in
    let text = ap (λ xs. path_text (path_of xs)) steps ∙ c.in_ok-steps.ensures in
    let p = path_of c.with_any-aim.result.steps.now in
    let found = rw (c.schema.ensures, c.pools.ensures) at c.in_ok-found.ensures.wanted in
    subst (λ (q : Question). All (λ v. MayBeWanted q.root q.pools (Some (data_of v)) p) c.deref.result.now) (sym c.in_ok-plan.ensures.plan)
    (subst (λ vs. All (λ v. MayBeWanted c.args.plan.root c.args.plan.pools (Some (data_of v)) p) vs) (sym c.deref.ensures.value) (found p text))

pub returns-clause-known : goal.returns-clause-known
returns-clause-known g c =
    let old = c.args.covered.now in
    let now = c.add_values.new.covered in
    let front : Front = record { steps = c.in_ok-steps.steps; known = c.in_ok-plan.known } in
    let left = c.known_above-above.ensures.left in
    let steps = ap (λ s. s.now) c.with_any-aim.ensures.1 ∙ c.as_slice.ensures.value in
    let before = subst (λ fs. AreKnown now fs) (sym left.1)
    (are_known_on old now (take left.0 c.args.fronts.now.items) (grown_on old c.add_wanted.new.covered now c.in_ok-plan.ensures.grown c.in_ok-plan-2.ensures.grown)
    (All-take (λ f. IsKnown old (path_of f.steps.items) f.known) left.0 c.args.fronts.now.items c.requires.known)) in
    let last = subst (λ xs. IsKnown now (path_of xs) c.in_ok-plan.known) steps
    (known_on c.add_wanted.new.covered now (path_of c.with_any-aim.result.steps.now) c.in_ok-plan.known c.in_ok-plan-2.ensures.grown (c.in_ok-plan.ensures.known c.with_any-aim.ensures.2)) in
    subst (λ fs. AreKnown now fs) (sym c.in_ok-push.ensures.items) (All-push (λ f. IsKnown now (path_of f.steps.items) f.known) c.known_above-above.new.fronts.items front before last)

pub returns-clause-grown : goal.returns-clause-grown
returns-clause-grown g c = grown_on c.args.covered.now c.add_wanted.new.covered c.add_values.new.covered c.in_ok-plan.ensures.grown c.in_ok-plan-2.ensures.grown

pub returns-clause-adds : goal.returns-clause-adds
returns-clause-adds g c = λ q wanted is covered.
    let path = c.args.path.now in
    let vs = map (λ v. data_of v) c.in_ok-found.found.items in
    let after = covered_of c.add_values.new.covered in
    let named = ap (λ s. s.now) c.with_any-aim.ensures.0 in
    let one = subst (λ w. AreCovered q (wanted ++ w ∷ []) (covered_of c.add_wanted.new.covered))
    (ap (λ t. record { path = t; value = option_map (λ v. data_of v.now) c.with_any-aim.result.value }) named ∙ ap (λ o. record { path = path; value = option_map (λ v. data_of v.now) o }) c.with_any-aim.ensures.2)
    (c.in_ok-plan.ensures.adds q wanted is covered) in
    let more = subst (λ t. AreCovered q ((wanted ++ with_any path ∷ []) ++ map (with_value t) (map (λ v. data_of v) c.deref.result.now)) after) named
    (c.in_ok-plan-2.ensures.adds q (wanted ++ with_any path ∷ []) (is ∙ sym c.in_ok-plan.ensures.plan) one) in
    let found : AreValuesOf c.args.values q path vs =
    subst (λ (x : Question). AreValuesOf c.args.values x path vs) (sym is) (rw (c.schema.ensures, c.pools.ensures, c.limit.ensures) at c.in_ok-found.ensures.values) in (
      vs,
      found,
      subst (λ ws. AreCovered q ws after) (append_assoc wanted (with_any path ∷ []) (map (with_value path) vs))
          (subst (λ ts. AreCovered q ((wanted ++ with_any path ∷ []) ++ map (with_value path) (map (λ v. data_of v) ts)) after) c.deref.ensures.value more),
    )
