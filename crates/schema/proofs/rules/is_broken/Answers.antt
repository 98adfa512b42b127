use Rattle.std.proofs.Common.{sym, subst, ap, ◌∙◌}
use Rattle.std.specs.Prelude.{◌↔◌, IsTrue, option_map}
use Rattle.jtree.specs.Data.{object}
use Rattle.schema.specs.Document.Places.{schema_at, is_inside, core}
use Rattle.schema.specs.Document.Raw.{raw_by}
use Rattle.schema.specs.Internal.PlaceView.{place_of}
use Rattle.schema.specs.Rules.Broken.{Broken}
use Rattle.schema.specs.Rules.Junctors.{BreaksJunctors}
use Rattle.schema.specs.Rules.Profile.{is_root, is_outside_profile}
use Rattle.schema.proofs.RuleLemmas.{restricts, passes_there, at_there}
use Rattle.schema.proofs.rules.is_broken.Goals as goal

pub returns-in-V04 : goal.returns-in-V04
returns-in-V04 c = λ raw is.
    let profile = c.args.profile in
    let v = c.args.subschema.now in
    let b = c.restricts_metadata.result in
    subst (λ r. IsTrue b ↔ Broken (raw_by profile raw) (place_of v.place.items) r) (sym c.in-V04.is) (restricts raw (place_of v.place.items) (object v.schema.now) b is.is c.restricts_metadata.ensures)

pub returns-in-V16 : goal.returns-in-V16
returns-in-V16 c = λ raw is.
    let profile = c.args.profile in
    let v = c.args.subschema.now in
    let p = place_of v.place.items in
    let s = object v.schema.now in
    let b = c.breaks_junctors.result in
    let here : IsTrue b ↔ BreaksJunctors profile p (option_map (λ m. object m.now) v.outer) s =
    subst (λ steps. IsTrue b ↔ BreaksJunctors profile (place_of steps) (option_map (λ m. object m.now) v.outer) s) c.as_slice-place.ensures.value c.breaks_junctors.ensures in
    let holds = subst (λ o. IsTrue b ↔ BreaksJunctors profile p o s) is.outer_is here in
    subst (λ r. IsTrue b ↔ Broken (raw_by profile raw) p r) (sym c.in-V16.is) (at_there raw p s (BreaksJunctors profile p (schema_at raw (core p))) b is.is holds)

pub returns-then-not-is_inside-8 : goal.returns-then-not-is_inside-8
returns-then-not-is_inside-8 c = λ raw is.
    let profile = c.args.profile in
    let v = c.args.subschema.now in
    let p = place_of v.place.items in
    let s = object v.schema.now in
    let b = c.is_outside_profile.result in
    let same = c.as_slice-place.ensures.value in
    let root = c.is_root.ensures ∙ ap (λ steps. is_root (place_of steps)) same in
    let reported = c.is_outside_profile.ensures ∙ ap (λ r. is_outside_profile profile r s) root in
    let out = sym (c.if-not-is_inside-8.ensures ∙ ap (λ steps. is_inside (place_of steps)) same) in
    subst (λ r. IsTrue b ↔ Broken (raw_by profile raw) p r) (sym c.in-V17.is) (passes_there raw p s (is_outside_profile profile (is_root p)) b is.is out reported)
