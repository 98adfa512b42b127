-- The rules that are this project's own: where a default may be, and which keywords a place of each kind may have.
-- Keywords without effect are among them.
use Rattle.std.specs.Prelude.{ℕ, List, [], ◌∷◌, Bool, true, false, Option, Some, None, not, ◌&&◌, ◌||◌, if◌then◌else◌, codes}
use Rattle.std.specs.Option.{is_some}
use Rattle.jtree.specs.Data.{Data, text, list, Members}
use Rattle.jtree.specs.Kind.{is_boolean, is_integer, is_text}
use Rattle.jtree.specs.Path.{under, member_at}
use Rattle.schema.specs.Document.Forms.{is_number}
use Rattle.schema.specs.Document.Texts.{is_among}
use Rattle.schema.specs.Document.Places.{Step, Place, property, items, schema_by, ends_with, is_envelope_name, is_envelope}
use Rattle.schema.specs.Rules.Keywords.{flag, has, has_other_text, has_keyword, any_item, is_empty, items_under, members_under, one_holds}
use Rattle.schema.specs.Rules.Kinds.{Kind, scalar, open_, kind_of, is_list_kind, is_int_or_string, is_untyped, preserves}
use Rattle.schema.specs.Rules.Kinds as kinds
use Rattle.schema.specs.declared.node.ScalarKind.{ScalarKind}
use Rattle.schema.specs.declared.node.ScalarKind.TheVariants.{Boolean, Integer, Number, String, IntOrString}
use Rattle.schema.specs.declared.profile.Profile.{Profile}
use Rattle.schema.specs.declared.profile.Profile.TheVariants.{Core, Cluster}

-- ---- defaults

abbrev pub is_property : Step → Bool
is_property (property k) = true
is_property _ = false

-- a default is where no field of the body is
abbrev pub has_misplaced_default : Place → Data → Bool
has_misplaced_default p s = has s (codes "default") && (not (ends_with is_property p) || is_envelope p)

-- ---- keywords

abbrev pub junctor_keywords : List (List ℕ)
junctor_keywords = codes "allOf" ∷ codes "anyOf" ∷ codes "oneOf" ∷ codes "not" ∷ []

-- keywords that no branch of a junctor may have, besides `type`
abbrev pub outside_keywords : List (List ℕ)
outside_keywords = codes "description" ∷ codes "default" ∷ codes "additionalProperties" ∷ codes "nullable" ∷ []

-- keywords that no place may have
abbrev pub unsupported_keywords : List (List ℕ)
unsupported_keywords = codes "definitions" ∷ codes "dependencies" ∷ codes "deprecated" ∷ codes "discriminator" ∷ codes "id"
    ∷ codes "patternProperties" ∷ codes "readOnly" ∷ codes "writeOnly" ∷ codes "xml" ∷ codes "$ref" ∷ []

abbrev pub keywords_of_scalars : List (List ℕ)
keywords_of_scalars = codes "enum" ∷ codes "minimum" ∷ codes "maximum" ∷ codes "exclusiveMinimum" ∷ codes "exclusiveMaximum"
    ∷ codes "minLength" ∷ codes "maxLength" ∷ []

abbrev pub keywords_of_objects : List (List ℕ)
keywords_of_objects = codes "properties" ∷ codes "additionalProperties" ∷ codes "required" ∷ codes "minProperties" ∷ codes "maxProperties" ∷ []

abbrev pub keywords_of_lists : List (List ℕ)
keywords_of_lists = codes "items" ∷ codes "minItems" ∷ codes "maxItems" ∷ []

-- The keywords of places of every kind, with those that no place may have: of these, and of where each may be, other
-- rules speak.
abbrev pub keywords_of_all : List (List ℕ)
keywords_of_all = codes "type" ∷ codes "description" ∷ codes "title" ∷ codes "format" ∷ codes "example" ∷ codes "externalDocs"
    ∷ codes "nullable" ∷ codes "default" ∷ codes "uniqueItems" ∷ codes "x-kubernetes-int-or-string"
    ∷ codes "x-kubernetes-preserve-unknown-fields" ∷ codes "x-kubernetes-list-type" ∷ codes "x-kubernetes-list-map-keys"
    ∷ codes "x-kubernetes-map-type" ∷ []

abbrev pub is_common_keyword : List ℕ → Bool
is_common_keyword k = is_among k keywords_of_all || (is_among k junctor_keywords || is_among k unsupported_keywords)

abbrev pub own_keywords : Kind → List (List ℕ)
own_keywords (scalar k) = keywords_of_scalars
own_keywords open_ = []
own_keywords kinds.list = keywords_of_lists
own_keywords _ = keywords_of_objects

abbrev pub is_keyword_of : Kind → List ℕ → Bool
is_keyword_of kind k = is_common_keyword k || is_among k (own_keywords kind)

-- a place of the kind may not have the keyword
abbrev pub is_foreign : Option Kind → List ℕ → Bool
is_foreign None k = false
is_foreign (Some kind) k = not (is_keyword_of kind k)

-- ---- the values of `enum`

abbrev pub is_empty_list : Option Data → Bool
is_empty_list (Some (list ds)) = is_empty ds
is_empty_list _ = false

-- `enum` lists no value; and it lists one that is not accepted
abbrev pub has_empty_enum : Data → Bool
has_empty_enum s = is_empty_list (under s (codes "enum"))

abbrev pub lists_other : (Data → Bool) → Data → Bool
lists_other accepts s = any_item (λ d. not (accepts d)) (items_under s (codes "enum"))

-- neither null, nor a list, nor an object
abbrev pub is_scalar_value : Data → Bool
is_scalar_value d = is_boolean d || (is_number d || is_text d)

-- a scalar place accepts values of its kind
abbrev pub accepts : ScalarKind → Data → Bool
accepts Boolean d = is_boolean d
accepts Integer d = is_integer d
accepts Number d = is_number d
accepts String d = is_text d
accepts IntOrString d = is_integer d || is_text d

-- so it is at a scalar place
abbrev pub has_no_choice : Option Kind → Data → Bool
has_no_choice (Some (scalar k)) s = has_empty_enum s
has_no_choice _ s = false

abbrev pub has_other_choice : Option Kind → Data → Bool
has_other_choice (Some (scalar k)) s = lists_other (accepts k) s
has_other_choice _ s = false

-- ---- the profile: nine conditions, in the order of docs/reference/schema-rules.md

abbrev pub is_root : Place → Bool
is_root [] = true
is_root _ = false

-- another type than object is given, or the place is int-or-string
abbrev pub is_no_object : Data → Bool
is_no_object s = has_other_text ([] ∷ codes "object" ∷ []) s (codes "type") || is_int_or_string s

-- unknown fields are kept, and no type is given
abbrev pub is_untyped_open : Data → Bool
is_untyped_open s = preserves s && is_untyped (under s (codes "type"))

-- the root is something other than an object
abbrev pub is_other_root : Bool → Data → Bool
is_other_root root s = root && (is_no_object s || is_untyped_open s)

abbrev pub not_at_root : List (List ℕ)
not_at_root = codes "additionalProperties" ∷ codes "minProperties" ∷ codes "maxProperties" ∷ []

-- the root takes null, or has one of these keywords
abbrev pub has_no_root_keyword : Bool → Data → Bool
has_no_root_keyword root s = root && (flag s (codes "nullable") || has_keyword (λ k. is_among k not_at_root) s)

abbrev pub types : List (List ℕ)
types = [] ∷ codes "integer" ∷ codes "string" ∷ codes "boolean" ∷ codes "array" ∷ codes "object" ∷ []

abbrev pub types_of : Profile → List (List ℕ)
types_of Core = types
types_of Cluster = codes "number" ∷ types

-- the type is none of the profile
abbrev pub has_unknown_type : Profile → Data → Bool
has_unknown_type profile s = has_other_text (types_of profile) s (codes "type")

-- unknown fields are kept beside a type or a keyword that does not go with that
abbrev pub is_bad_preserving : Data → Bool
is_bad_preserving s = preserves s && (is_no_object s || has s (codes "additionalProperties"))

-- places of the kind may not have some keyword that is there
abbrev pub has_foreign_keyword : Profile → Data → Bool
has_foreign_keyword profile s = has_keyword (is_foreign (kind_of profile s)) s

-- a list has no items
abbrev pub lacks_items : Profile → Data → Bool
lacks_items profile s = is_list_kind (kind_of profile s) && not (is_some (schema_by s items))

-- the string names no field: a field is a property, but at the root a name of the envelope is one exactly where the envelope counts
abbrev pub is_no_field : Bool → Bool → Members → Data → Bool
is_no_field root envelope properties (text k) = not (if root && is_envelope_name k then envelope else is_some (member_at k properties))
is_no_field root envelope properties _ = false

-- `required` lists such a string
abbrev pub lists_no_field : Bool → Bool → Members → Data → Bool
lists_no_field root envelope properties s = any_item (is_no_field root envelope properties) (items_under s (codes "required"))

-- a place requires what is no field of it; the envelope counts
abbrev pub requires_undeclared : Bool → Data → Bool
requires_undeclared root s = lists_no_field root true (members_under s (codes "properties")) s

-- a scalar has no value to choose, or one that is not of its kind
abbrev pub has_bad_choices : Profile → Data → Bool
has_bad_choices profile s = has_no_choice (kind_of profile s) s || has_other_choice (kind_of profile s) s

abbrev pub profile_tests : Profile → Bool → Data → List Bool
profile_tests profile root s =
    is_other_root root s ∷
    has_no_root_keyword root s ∷
    has_unknown_type profile s ∷
    is_bad_preserving s ∷
    has_foreign_keyword profile s ∷
    lacks_items profile s ∷
    requires_undeclared root s ∷
    has_bad_choices profile s ∷
    flag s (codes "additionalProperties") ∷ []

-- one of them holds
abbrev pub is_outside_profile : Profile → Bool → Data → Bool
is_outside_profile profile root s = one_holds (profile_tests profile root s)
