-- Where junctors may be, and what their branches may say (OpenAPI 3.0, `allOf`, `anyOf`, `oneOf` and `not`): at a scalar
-- the branches ask of the value, at an object with declared fields they ask which of these are present. This project's own.
use Rattle.std.specs.Prelude.{◌≡◌, ◌≢◌, ◌⊎◌, ◌<◌, ℕ, List, [], length, Bool, true, false, Option, Some, option_and_then, not, ◌&&◌, ◌||◌, codes, All, AllPairs}
use Rattle.std.specs.Str.{bytes_eq}
use Rattle.jtree.specs.Data.{Data, Members}
use Rattle.jtree.specs.Path.{under}
use Rattle.schema.specs.Document.Texts.{is_among}
use Rattle.schema.specs.Document.Places.{Place, schema_at, is_inside, core}
use Rattle.schema.specs.Rules.Keywords.{has_keyword, members_in, texts_under}
use Rattle.schema.specs.Rules.Kinds.{Kind, object, kind_of, is_scalar_kind}
use Rattle.schema.specs.Rules.Profile.{is_root, junctor_keywords, outside_keywords, unsupported_keywords, keywords_of_scalars, has_empty_enum, lists_other, is_scalar_value, lists_no_field}
use Rattle.schema.specs.declared.profile.Profile.{Profile}

-- an object with declared fields, and no map
abbrev pub declares_fields : Option Kind → Bool
declares_fields (Some object) = true
declares_fields _ = false

-- ---- the branches: `outer` is the schema at the place without its steps into branches, where that is a place. Where it is none, V02 or
-- V03 is broken, and the branch is judged as one that asks of the value.

-- a branch at an object with declared fields asks which of these are present
abbrev pub asks_presence : Profile → Place → Option Data → Bool
asks_presence profile p outer = is_inside p && declares_fields (option_and_then (kind_of profile) outer)

-- any other branch asks of the value
abbrev pub asks_value : Profile → Place → Option Data → Bool
asks_value profile p outer = is_inside p && not (asks_presence profile p outer)

-- a branch may have these keywords as far as other rules let it
abbrev pub is_judged_elsewhere : List ℕ → Bool
is_judged_elsewhere k = bytes_eq k (codes "type") || (is_among k outside_keywords || is_among k unsupported_keywords)

-- the keywords of a branch that asks which fields are present
abbrev pub is_presence_keyword : List ℕ → Bool
is_presence_keyword k = (bytes_eq k (codes "required") || is_among k junctor_keywords) || is_judged_elsewhere k

-- the keywords of a branch that asks of the value
abbrev pub is_branch_keyword : List ℕ → Bool
is_branch_keyword k = (is_among k keywords_of_scalars || is_among k junctor_keywords) || is_judged_elsewhere k

abbrev pub fields_of : Option Data → Members
fields_of outer = members_in (option_and_then (λ t. under t (codes "properties")) outer)

-- `required` lists what is no field of the object outside; the envelope does not count
abbrev pub requires_no_field : Place → Option Data → Data → Bool
requires_no_field p outer s = lists_no_field (is_root (core p)) false (fields_of outer) s

-- ---- the fields that branches name

-- a branch of a junctor of the schema, or of a junctor in such a branch and so on, requires the field
abbrev pub NamesField : Data → List ℕ → Type 0
NamesField s k = (p : Place) × (is_inside p ≡ true) × (core p ≡ []) × (t : Data) × (schema_at s p ≡ Some t) × (is_among k (texts_under t (codes "required")) ≡ true)

-- the tables of a plan have an entry for each set of named fields: 16 for four of them
abbrev pub most_named : ℕ
most_named = 4

-- more than so many different fields are named
abbrev pub NamesTooMany : Data → Type 0
NamesTooMany s = (names : List (List ℕ)) × AllPairs (λ k l. k ≢ l) names × All (NamesField s) names × (most_named < length names)

-- ---- junctors outside the profile: four conditions, in the order of docs/reference/schema-rules.md

-- an outside place that is neither a scalar nor an object with declared fields
abbrev pub takes_no_junctor : Profile → Place → Data → Bool
takes_no_junctor profile p s = not (is_inside p) && (not (is_scalar_kind (kind_of profile s)) && not (declares_fields (kind_of profile s)))

-- it has a junctor
abbrev pub has_misplaced_junctor : Profile → Place → Data → Bool
has_misplaced_junctor profile p s = takes_no_junctor profile p s && has_keyword (λ k. is_among k junctor_keywords) s

-- the junctors of an outside place that is an object with declared fields name too many
abbrev pub HasTooManyNames : Profile → Place → Data → Type 0
HasTooManyNames profile p s = (is_inside p ≡ false) × (declares_fields (kind_of profile s) ≡ true) × NamesTooMany s

-- a branch that asks which fields are present has another keyword, or requires what is no field
abbrev pub is_bad_presence : Profile → Place → Option Data → Data → Bool
is_bad_presence profile p outer s = asks_presence profile p outer && (has_keyword (λ k. not (is_presence_keyword k)) s || requires_no_field p outer s)

-- a branch that asks of the value has another keyword, or an `enum` that is empty or lists what is no scalar
abbrev pub is_bad_value : Profile → Place → Option Data → Data → Bool
is_bad_value profile p outer s =
    asks_value profile p outer && (has_keyword (λ k. not (is_branch_keyword k)) s || (has_empty_enum s || lists_other is_scalar_value s))

-- one of them holds
abbrev pub BreaksJunctors : Profile → Place → Option Data → Data → Type 0
BreaksJunctors profile p outer s =
    (has_misplaced_junctor profile p s ≡ true) ⊎
    (HasTooManyNames profile p s ⊎
    ((is_bad_presence profile p outer s ≡ true) ⊎
    (is_bad_value profile p outer s ≡ true)))
