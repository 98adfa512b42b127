-- The JSON form of each keyword's value (OpenAPI 3.0, Schema Object; apiextensions.k8s.io/v1, JSONSchemaProps). A member of
-- any other name may hold any tree. There are two tables: `object` is a schema by the core table, `written_schema` one with
-- every form that a cluster reads.
use Rattle.std.specs.Prelude.{◌≡◌, ℕ, pos, List, [], ◌∷◌, Bool, true, false, Some, if◌then◌else◌, int_le, ◌||◌, codes}
use Rattle.std.specs.Str.{bytes_eq}
use Rattle.jtree.specs.Data.{Data, item}
use Rattle.jtree.specs.Data as tree
use Rattle.jtree.specs.Kind.{is_boolean, is_integer, is_text, is_list, is_object}
use Rattle.jtree.specs.Path.{Step, name, index, Path, part_at}
use Rattle.jtree.specs.PathOrder.{IsFirst}
use Rattle.schema.specs.Document.Raw.{Raw}
use Rattle.schema.specs.Document.Texts.{is_among}
use Rattle.schema.specs.declared.profile.Profile.{Profile}
use Rattle.schema.specs.declared.profile.Profile.TheVariants.{Core, Cluster}

pub data Form : Type 0 where
  any_tree : Form
  string : Form
  boolean : Form
  -- an object, each of whose members is an object
  object_of_objects : Form
  boolean_or_object : Form
  object : Form
  -- a list of at least one object, with nothing else in it
  some_objects : Form
  -- a list of strings
  strings : Form
  list : Form
  integer : Form
  -- an integer, 0 or more
  count : Form
  -- a schema as a cluster reads it: an object with the keywords of JSONSchemaProps
  written_schema : Form
  -- an object, each of whose members is such a schema
  object_of_written_schemas : Form
  boolean_or_written_schema : Form
  -- a list of such schemas, and an empty list too
  written_schemas : Form
  -- an integer or another number
  number : Form

abbrev pub string_keywords : List (List ℕ)
string_keywords = codes "type" ∷ codes "description" ∷ codes "title" ∷ codes "format" ∷ codes "x-kubernetes-list-type" ∷ codes "x-kubernetes-map-type" ∷ []

abbrev pub boolean_keywords : List (List ℕ)
boolean_keywords = codes "nullable" ∷ codes "uniqueItems" ∷ codes "exclusiveMinimum" ∷ codes "exclusiveMaximum"
    ∷ codes "x-kubernetes-int-or-string" ∷ codes "x-kubernetes-preserve-unknown-fields" ∷ []

abbrev pub object_keywords : List (List ℕ)
object_keywords = codes "items" ∷ codes "not" ∷ []

abbrev pub some_objects_keywords : List (List ℕ)
some_objects_keywords = codes "allOf" ∷ codes "anyOf" ∷ codes "oneOf" ∷ []

abbrev pub strings_keywords : List (List ℕ)
strings_keywords = codes "required" ∷ codes "x-kubernetes-list-map-keys" ∷ []

abbrev pub integer_keywords : List (List ℕ)
integer_keywords = codes "minimum" ∷ codes "maximum" ∷ []

abbrev pub count_keywords : List (List ℕ)
count_keywords = codes "minLength" ∷ codes "maxLength" ∷ codes "minItems" ∷ codes "maxItems" ∷ codes "minProperties" ∷ codes "maxProperties" ∷ []

-- the form of a keyword
abbrev pub form_of : List ℕ → Form
form_of k =
    if is_among k string_keywords then string else
    if is_among k boolean_keywords then boolean else
    if bytes_eq k (codes "properties") then object_of_objects else
    if bytes_eq k (codes "additionalProperties") then boolean_or_object else
    if is_among k object_keywords then object else
    if is_among k some_objects_keywords then some_objects else
    if is_among k strings_keywords then strings else
    if bytes_eq k (codes "enum") then list else
    if is_among k integer_keywords then integer else
    if is_among k count_keywords then count else any_tree

-- the form that a cluster reads in place of one of the core table
abbrev pub as_written : Form → Form
as_written object_of_objects = object_of_written_schemas
as_written boolean_or_object = boolean_or_written_schema
as_written object = written_schema
as_written some_objects = written_schemas
as_written integer = number
as_written f = f

abbrev pub other_strings : List (List ℕ)
other_strings = codes "pattern" ∷ codes "id" ∷ codes "$ref" ∷ codes "$schema" ∷ []

abbrev pub other_objects : List (List ℕ)
other_objects = codes "patternProperties" ∷ codes "definitions" ∷ []

-- the form of a keyword as a cluster reads it: some that the core table leaves open have one too
abbrev pub written_form_of : List ℕ → Form
written_form_of k =
    if is_among k other_strings then string else
    if bytes_eq k (codes "x-kubernetes-embedded-resource") then boolean else
    if is_among k other_objects then object_of_written_schemas else
    if bytes_eq k (codes "multipleOf") then number else as_written (form_of k)

-- the form of what a step leads to, from a value that has to have a form: an object is a schema, with its keywords
abbrev pub form_below : Form → Step → Form
form_below object (name k) = form_of k
form_below boolean_or_object (name k) = form_of k
form_below object_of_objects (name k) = object
form_below some_objects (index i) = object
form_below strings (index i) = string
form_below written_schema (name k) = written_form_of k
form_below boolean_or_written_schema (name k) = written_form_of k
form_below object_of_written_schemas (name k) = written_schema
form_below written_schemas (index i) = written_schema
form_below f s = any_tree

-- The form at a path depends on the path alone. Inside a value of a wrong kind any tree will do, so that value is the break.
abbrev pub form_at : Form → Path → Form
form_at f [] = f
form_at f (s ∷ path) = form_at (form_below f s) path

abbrev pub is_some_list : Data → Bool
is_some_list (tree.list (item d ds)) = true
is_some_list _ = false

abbrev pub is_count : Data → Bool
is_count (tree.integer z) = int_le (pos 0) z
is_count _ = false

abbrev pub is_number : Data → Bool
is_number (tree.integer z) = true
is_number (tree.number s) = true
is_number _ = false

-- the value itself has the form, whatever its parts are
abbrev pub has_form : Form → Data → Bool
has_form any_tree d = true
has_form string d = is_text d
has_form boolean d = is_boolean d
has_form object_of_objects d = is_object d
has_form boolean_or_object d = is_boolean d || is_object d
has_form object d = is_object d
has_form some_objects d = is_some_list d
has_form strings d = is_list d
has_form list d = is_list d
has_form integer d = is_integer d
has_form count d = is_count d
has_form written_schema d = is_object d
has_form object_of_written_schemas d = is_object d
has_form boolean_or_written_schema d = is_boolean d || is_object d
has_form written_schemas d = is_list d
has_form number d = is_number d

-- what is at the path, in a value that has to have a form, has not the form that it has to have there
abbrev pub BreaksForm : Form → Data → Path → Type 0
BreaksForm f d path = (v : Data) × (part_at d path ≡ Some v) × (has_form (form_at f path) v ≡ false)

-- each part of a value that has to have a form has its form
abbrev pub HasFormsOf : Form → Data → Type 0
HasFormsOf f raw = (path : Path) → BreaksForm f raw path → ⊥

-- the first value in path order that has not its form
abbrev pub IsFormFaultOf : Form → Data → Path → Type 0
IsFormFaultOf f raw path = IsFirst (BreaksForm f raw) path

-- the form of a schema, by the profile
abbrev pub form_by : Profile → Form
form_by Core = object
form_by Cluster = written_schema

-- each keyword of each place of a schema has its form, inside branches and outside
abbrev pub HasForms : Raw → Type 0
HasForms raw = HasFormsOf (form_by raw.profile) raw.tree

abbrev pub IsFormFault : Data → Path → Type 0
IsFormFault raw path = IsFormFaultOf object raw path

-- each keyword has the form that a cluster reads, wherever a schema stands in the schema
abbrev pub HasWrittenForms : Data → Type 0
HasWrittenForms raw = HasFormsOf written_schema raw
