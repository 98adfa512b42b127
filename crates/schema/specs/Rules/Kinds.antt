-- The kind of an outside place, the first that fits, by a profile (apiextensions.k8s.io/v1, structural schemas).
use Rattle.std.specs.Prelude.{◌≡◌, ℕ, List, [], Bool, true, false, Option, Some, None, if◌then◌else◌, not, ◌&&◌, codes}
use Rattle.std.specs.Str.{bytes_eq}
use Rattle.jtree.specs.Data.{Data, text}
use Rattle.jtree.specs.Kind.{is_object}
use Rattle.jtree.specs.Path.{under}
use Rattle.schema.specs.Rules.Keywords.{flag}
use Rattle.schema.specs.declared.node.ScalarKind.{ScalarKind}
use Rattle.schema.specs.declared.node.ScalarKind.TheVariants.{Boolean, Integer, Number, String, IntOrString}
use Rattle.schema.specs.declared.profile.Profile.{Profile}
use Rattle.schema.specs.declared.profile.Profile.TheVariants.{Core, Cluster}

-- `open_` is the kind of a place that accepts every value
pub data Kind : Type 0 where
  scalar : ScalarKind → Kind
  open_ : Kind
  list : Kind
  map : Kind
  object : Kind

abbrev pub is_int_or_string : Data → Bool
is_int_or_string s = flag s (codes "x-kubernetes-int-or-string")

abbrev pub preserves : Data → Bool
preserves s = flag s (codes "x-kubernetes-preserve-unknown-fields")

-- the kind of a place whose `type` is absent or empty
abbrev pub untyped_kind : Data → Option Kind
untyped_kind s = if preserves s then Some open_ else None

-- an object is a map where `additionalProperties` is a schema
abbrev pub object_kind : Option Data → Kind
object_kind None = object
object_kind (Some d) = if is_object d then map else object

-- `number` is a type of a cluster alone
abbrev pub number_kind : Profile → Option Kind
number_kind Core = None
number_kind Cluster = Some (scalar Number)

-- by the string of `type`
abbrev pub named_kind : Profile → Data → List ℕ → Option Kind
named_kind profile s t =
    if bytes_eq t [] then untyped_kind s else
    if bytes_eq t (codes "integer") then Some (scalar Integer) else
    if bytes_eq t (codes "string") then Some (scalar String) else
    if bytes_eq t (codes "boolean") then Some (scalar Boolean) else
    if bytes_eq t (codes "array") then Some list else
    if bytes_eq t (codes "object") then Some (object_kind (under s (codes "additionalProperties"))) else
    if bytes_eq t (codes "number") then number_kind profile else None

-- by `type`
abbrev pub typed_kind : Profile → Data → Option Data → Option Kind
typed_kind profile s None = untyped_kind s
typed_kind profile s (Some (text t)) = named_kind profile s t
typed_kind profile _ _ = None

-- the kind of a place with this schema, where it is of one
abbrev pub kind_of : Profile → Data → Option Kind
kind_of profile s = if is_int_or_string s then Some (scalar IntOrString) else typed_kind profile s (under s (codes "type"))

pub record IsOfKind (profile : Profile) (s : Data) (k : Kind) : Type 0 where
  pub is : kind_of profile s ≡ Some k

abbrev pub is_scalar_kind : Option Kind → Bool
is_scalar_kind (Some (scalar k)) = true
is_scalar_kind _ = false

abbrev pub is_list_kind : Option Kind → Bool
is_list_kind (Some list) = true
is_list_kind _ = false

-- an object, maps among them
abbrev pub is_object_kind : Option Kind → Bool
is_object_kind (Some object) = true
is_object_kind (Some map) = true
is_object_kind _ = false

abbrev pub is_open_kind : Option Kind → Bool
is_open_kind (Some open_) = true
is_open_kind _ = false

-- `type` is absent or empty
abbrev pub is_untyped : Option Data → Bool
is_untyped None = true
is_untyped (Some (text t)) = bytes_eq t []
is_untyped _ = false

-- neither a type, nor int-or-string, nor open to every value
abbrev pub lacks_type : Data → Bool
lacks_type s = is_untyped (under s (codes "type")) && (not (is_int_or_string s) && not (preserves s))
