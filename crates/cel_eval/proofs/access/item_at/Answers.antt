use Rattle.std.proofs.Common.{◌≡◌, sym, ap, ◌∙◌}
use Rattle.std.specs.Prelude.{pos}
use Rattle.std.specs.Int.{w64}
use Rattle.std.proofs.lemmas.Int.{to_z-of_z}
use Rattle.cel_value.specs.View.{values_of}
use Rattle.cel_eval.proofs.ListLemmas.{indexed_in, indexed_past}
use Rattle.cel_eval.proofs.access.item_at.Goals as goal

pub returns-in-Some-get : goal.returns-in-Some-get
returns-in-Some-get c =
    let place : c.args.index ≡ pos c.in-Some.place = sym (to_z-of_z w64 c.args.index c.ranges.index) ∙ c.in-Some.ensures in
    let view = ap values_of c.deref.ensures.value ∙ c.values.view_is in
    indexed_in c.args.values.now c.deref.result.now c.args.index c.in-Some.place c.in-Some-get.item.now view place c.in-Some-get.ensures.lookup.3.0 c.in-Some-get.ensures.lookup.1

pub returns-in-None-get : goal.returns-in-None-get
returns-in-None-get c =
    let place : c.args.index ≡ pos c.in-Some.place = sym (to_z-of_z w64 c.args.index c.ranges.index) ∙ c.in-Some.ensures in
    let view = ap values_of c.deref.ensures.value ∙ c.values.view_is in
    indexed_past c.args.values.now c.deref.result.now c.args.index c.in-Some.place view place c.in-None-get.ensures.lookup.3
