-- For private contracts: what the rules ask of one place and its schema.
use Rattle.std.specs.Prelude.{◌≡◌, ◌⊎◌, ℕ, List, [], ◌∷◌, ◌++◌, true, false, None, not, IsTrue, codes}
use Rattle.jtree.specs.Data.{Data, object}
use Rattle.schema.specs.Document.Texts.{is_among}
use Rattle.schema.specs.Document.Places.{Step, Place, property, is_inside}
use Rattle.schema.specs.Internal.PlaceView.{place_of}
use Rattle.schema.specs.Rules.Keywords.{has, has_keyword, has_other_text}
use Rattle.schema.specs.Rules.Broken.{metadata_keywords, metadata_types, metadata_names, metadata, ends_in_field}
use Rattle.schema.specs.Rules.Profile.{outside_keywords}
use Rattle.schema.specs.declared.listing.Subschema.{Subschema}

-- the step is to a property, and its name neither `name` nor `generateName`
abbrev pub IsOtherName : Step → Type 0
IsOtherName s = (k : List ℕ) × (s ≡ property k) × (is_among k metadata_names ≡ false)

-- the place is a field of `metadata`, and neither `name` nor `generateName`
abbrev pub IsOtherField : Place → Type 0
IsOtherField p = (s : Step) × (p ≡ metadata ++ (s ∷ [])) × IsOtherName s

abbrev pub IsUnspecified : Subschema → Type 0
IsUnspecified v = (is_inside (place_of v.place.items) ≡ true) × (ends_in_field (place_of v.place.items) ≡ true) × (v.outer ≡ None)

abbrev pub HasOutsideKeyword : Subschema → Type 0
HasOutsideKeyword v =
    (is_inside (place_of v.place.items) ≡ true)
    × ((has_keyword (λ k. is_among k outside_keywords) (object v.schema.now) ≡ true)
    ⊎ ((has (object v.schema.now) (codes "type") ≡ true) × (IsTrue v.in_pattern → ⊥)))

abbrev pub Restricts : Place → Data → Type 0
Restricts p s =
    ((p ≡ metadata) × ((has_keyword (λ k. not (is_among k metadata_keywords)) s ≡ true) ⊎ (has_other_text metadata_types s (codes "type") ≡ true)))
    ⊎ IsOtherField p
