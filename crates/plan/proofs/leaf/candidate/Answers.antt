use Rattle.std.proofs.Common.{ap, sym, ◌∙◌}
use Rattle.std.specs.Prelude.{option_map}
use Rattle.std.proofs.lemmas.Option.{slice_get-map}
use Rattle.jtree.specs.View.{data_of}
use Rattle.plan.specs.Internal.Values.{tree_of}
use Rattle.plan.proofs.PlanLemmas.{slice_get_at}
use Rattle.plan.proofs.leaf.candidate.Goals as goal

pub returns : goal.returns
returns c =
    let v = c.args.values.now in
    let l = c.args.leaf.now in
    let place = c.in_ok-place.place.now in
    let lookup = rw c.deref.ensures.value at c.in_ok-place.ensures.lookup.3 in
    let is = slice_get_at l.places.items c.args.place place lookup.0 (lookup.1 place) in
    rw c.tree.ensures (sym (slice_get-map (λ i. data_of (tree_of v l.base i)) l.places.items c.args.place ∙ ap (option_map (λ i. data_of (tree_of v l.base i))) is))
