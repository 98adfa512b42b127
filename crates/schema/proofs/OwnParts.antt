-- Where no rule is broken, keywords that hold schemas are in schemas of their kind alone.
use Rattle.std.proofs.Common.{◌≡◌, ℕ, List, Bool, true, false, Option, Some, None, refl}
use Rattle.std.specs.Prelude.{codes}
use Rattle.std.specs.Option.{is_some}
use Rattle.jtree.specs.Data.{Data, object, Members}
use Rattle.jtree.specs.Path.{under}
use Rattle.schema.specs.Document.Places.{Place, schema_at, is_inside}
use Rattle.schema.specs.Document.Raw.{Raw, raw_by}
use Rattle.schema.specs.Rules.Kinds as kinds
use Rattle.schema.specs.Rules.Kinds.{Kind, IsOfKind, kind_of}
use Rattle.schema.specs.Rules.Profile.{is_keyword_of, is_foreign, is_root, profile_tests, is_outside_profile}
use Rattle.schema.specs.Rules.Breaks.{BreaksNone}
use Rattle.schema.specs.Internal.Building.{HasObject, HasOwnParts, HaveOwnParts}
use Rattle.schema.specs.declared.violation.Rule.TheVariants.{V08, V17}
use Rattle.schema.proofs.KindLemmas.{map_has_object, object_has_none}
use Rattle.schema.proofs.ReasonWords.{holds_at, keyword_found}
use Rattle.schema.proofs.ShapeLemmas.{some_kind}
use Rattle.schema.specs.declared.profile.Profile.{Profile}

object_there : (o : Option Data) → (ms : Members) × (o ≡ Some (object ms)) → is_some o ≡ true
object_there (Some d) at = refl
object_there None at = absurd (let is = at.1 in cc)

foreign : (profile : Profile) (root : Bool) (s : Data) (kind : Kind) (w : List ℕ) → kind_of profile s ≡ Some kind → is_keyword_of kind w ≡ false → HasObject s w → is_outside_profile profile root s ≡ true
foreign profile root s kind w is none at =
    let other : is_foreign (kind_of profile s) w ≡ true = rw (is, none) refl in
    holds_at (profile_tests profile root s) 4 (keyword_found (is_foreign (kind_of profile s)) s w (object_there (under s w) at) other)

module _ (profile : Profile) (raw : Data) (none : BreaksNone (raw_by profile raw)) (p : Place) (s : Data) (outside : is_inside p ≡ false) (at : schema_at raw p ≡ Some s) where
  no_foreign : (kind : Kind) (w : List ℕ) → kind_of profile s ≡ Some kind → is_keyword_of kind w ≡ false → HasObject s w → ⊥
  no_foreign kind w is unknown here = none p V17 (outside, (s, at, foreign profile (is_root p) s kind w is unknown here))

  no_map_properties : HasObject s (codes "properties") → HasObject s (codes "additionalProperties") → ⊥
  no_map_properties one other = none p V08 (s, at, rw (one.1, other.1) refl)

  own_properties : (kind : Kind) → kind_of profile s ≡ Some kind → HasObject s (codes "properties") → IsOfKind profile s kinds.object
  own_properties (kinds.scalar k) is here = absurd (no_foreign _ _ is refl here)
  own_properties kinds.open_ is here = absurd (no_foreign _ _ is refl here)
  own_properties kinds.list is here = absurd (no_foreign _ _ is refl here)
  own_properties kinds.map is here = absurd (no_map_properties here (map_has_object profile s is))
  own_properties kinds.object is here = record { is = is }

  own_values : (kind : Kind) → kind_of profile s ≡ Some kind → HasObject s (codes "additionalProperties") → IsOfKind profile s kinds.map
  own_values (kinds.scalar k) is here = absurd (no_foreign _ _ is refl here)
  own_values kinds.open_ is here = absurd (no_foreign _ _ is refl here)
  own_values kinds.list is here = absurd (no_foreign _ _ is refl here)
  own_values kinds.map is here = record { is = is }
  own_values kinds.object is here = absurd (object_has_none profile s is here)

  own_items : (kind : Kind) → kind_of profile s ≡ Some kind → HasObject s (codes "items") → IsOfKind profile s kinds.list
  own_items (kinds.scalar k) is here = absurd (no_foreign _ _ is refl here)
  own_items kinds.open_ is here = absurd (no_foreign _ _ is refl here)
  own_items kinds.list is here = record { is = is }
  own_items kinds.map is here = absurd (no_foreign _ _ is refl here)
  own_items kinds.object is here = absurd (no_foreign _ _ is refl here)

  own_parts : HasOwnParts profile s
  own_parts = let kind = some_kind profile raw none p s outside at in record {
    properties = own_properties kind.0 kind.1;
    values = own_values kind.0 kind.1;
    items = own_items kind.0 kind.1;
  }

pub have_own_parts : (profile : Profile) (raw : Data) → BreaksNone (raw_by profile raw) → HaveOwnParts profile true raw
have_own_parts profile raw none p s place at = own_parts profile raw none p s place.0 at
