-- The envelope of an embedded resource: its `apiVersion`, `kind` and `metadata`, as the API server asks for them (k8s.io/apiextensions-apiserver,
-- pkg/apiserver/schema/objectmeta/validation.go). Texts are bytes, and so are their lengths.
use Rattle.std.specs.Prelude.{ℕ, ◌-◌, List, [], ◌∷◌, length, filter, slice_get, Bool, true, false, Option, Some, None, ◌==◌, not, ◌&&◌, ◌||◌, nat_le, codes}
use Rattle.std.specs.Char.{is_ascii_alphabetic, is_ascii_alphanumeric, is_ascii_digit, is_ascii_lowercase}
use Rattle.std.specs.List.{list_all, list_any, slice_split}
use Rattle.std.specs.Str.{bytes_eq}
use Rattle.jtree.specs.Data.{Data, null, text, object, Members, no_members, member}
use Rattle.jtree.specs.Path.{member_at}

-- ---- names (k8s.io/apimachinery, pkg/util/validation/validation.go)

abbrev pub passes_byte : (ℕ → Bool) → Option ℕ → Bool
passes_byte test None = false
passes_byte test (Some b) = test b

abbrev pub begins : (ℕ → Bool) → List ℕ → Bool
begins test t = passes_byte test (slice_get t 0)

abbrev pub ends : (ℕ → Bool) → List ℕ → Bool
ends test t = passes_byte test (slice_get t (length t - 1))

-- a letter or a digit at the beginning and at the end, and these and marks between
abbrev pub is_word : (ℕ → Bool) → (ℕ → Bool) → List ℕ → Bool
is_word letter mark t = begins letter t && (ends letter t && list_all (λ b. letter b || mark b) t)

-- Digits count as letters: with the lowercase ones, or with all of ASCII (`is_ascii_alphanumeric`) where case does not matter. Go lowercases
-- U+212A and U+0130 to letters of ASCII too, which are refused here.
abbrev pub is_lower : ℕ → Bool
is_lower b = is_ascii_lowercase b || is_ascii_digit b

-- marks: `-`, and in names `_` and `.` too
abbrev pub is_hyphen : ℕ → Bool
is_hyphen b = b == 45

abbrev pub is_mark : ℕ → Bool
is_mark b = b == 45 || (b == 95 || b == 46)

-- IsDNS1123Label
abbrev pub is_label : List ℕ → Bool
is_label t = nat_le (length t) 63 && is_word is_lower is_hyphen t

-- IsDNS1035Label, whatever the case
abbrev pub is_kind_name : List ℕ → Bool
is_kind_name t = nat_le (length t) 63 && (begins is_ascii_alphabetic t && is_word is_ascii_alphanumeric is_hyphen t)

-- IsDNS1123Subdomain: words with dots between them
abbrev pub is_dot : ℕ → Bool
is_dot b = b == 46

abbrev pub is_subdomain : (ℕ → Bool) → List ℕ → Bool
is_subdomain letter t = nat_le (length t) 253 && list_all (is_word letter is_hyphen) (slice_split is_dot t)

-- the name in a qualified name; IsValidLabelValue takes these, and the empty text
abbrev pub is_name : List ℕ → Bool
is_name t = nat_le (length t) 63 && is_word is_ascii_alphanumeric is_mark t

-- IsQualifiedName: a name, or a subdomain and a name with a slash between them
abbrev pub is_qualified : (ℕ → Bool) → List (List ℕ) → Bool
is_qualified letter (name ∷ []) = is_name name
is_qualified letter (prefix ∷ name ∷ []) = is_subdomain letter prefix && is_name name
is_qualified letter _ = false

abbrev pub is_slash : ℕ → Bool
is_slash b = b == 47

abbrev pub is_qualified_name : (ℕ → Bool) → List ℕ → Bool
is_qualified_name letter t = is_qualified letter (slice_split is_slash t)

abbrev pub is_slash_or_percent : ℕ → Bool
is_slash_or_percent b = b == 47 || b == 37

-- IsValidPathSegmentPrefix: without `/` and `%`
abbrev pub is_segment_prefix : List ℕ → Bool
is_segment_prefix t = not (list_any is_slash_or_percent t)

-- IsValidPathSegmentName: neither `.` nor `..` besides
abbrev pub is_segment : List ℕ → Bool
is_segment t = not (bytes_eq t (codes ".")) && (not (bytes_eq t (codes "..")) && is_segment_prefix t)

-- ---- `metadata` (k8s.io/apimachinery, pkg/api/validation/objectmeta.go): what is null or an empty text counts as absent

-- a text that passes a test
abbrev pub is_text_where : (List ℕ → Bool) → Data → Bool
is_text_where test null = true
is_text_where test (text t) = (length t == 0) || test t
is_text_where test _ = false

abbrev pub are_texts_where : (List ℕ → Bool) → (List ℕ → Bool) → Members → Bool
are_texts_where key test no_members = true
are_texts_where key test (member k d ms) = key k && (is_text_where test d && are_texts_where key test ms)

-- an object of such texts, whose names pass a test too
abbrev pub is_map_where : (List ℕ → Bool) → (List ℕ → Bool) → Data → Bool
is_map_where key test null = true
is_map_where key test (object ms) = are_texts_where key test ms
is_map_where key test _ = false

abbrev pub if_there : (Data → Bool) → Option Data → Bool
if_there test None = true
if_there test (Some d) = test d

abbrev pub is_any : List ℕ → Bool
is_any t = true

-- No name is needed, since the server puts one where there is none. In the keys of annotations case does not matter.
abbrev pub is_good_metadata : Members → Bool
is_good_metadata ms =
    if_there (is_text_where is_segment) (member_at (codes "name") ms)
    && (if_there (is_text_where is_segment_prefix) (member_at (codes "generateName") ms)
    && (if_there (is_text_where is_label) (member_at (codes "namespace") ms)
    && (if_there (is_text_where is_any) (member_at (codes "selfLink") ms)
    && (if_there (is_text_where is_any) (member_at (codes "uid") ms)
    && (if_there (is_text_where is_any) (member_at (codes "resourceVersion") ms)
    && (if_there (is_map_where (is_qualified_name is_lower) is_name) (member_at (codes "labels") ms)
    && if_there (is_map_where (is_qualified_name is_ascii_alphanumeric) is_any) (member_at (codes "annotations") ms)))))))

abbrev pub is_metadata : Data → Bool
is_metadata null = true
is_metadata (object ms) = is_good_metadata ms
is_metadata _ = false

-- ---- the envelope

-- ParseGroupVersion (k8s.io/apimachinery, pkg/runtime/schema/group_version.go): at most one slash
abbrev pub is_group_version : List ℕ → Bool
is_group_version t = nat_le (length (filter is_slash t)) 1

abbrev pub is_version : Option Data → Bool
is_version (Some (text t)) = not (length t == 0) && is_group_version t
is_version _ = false

abbrev pub is_kind : Option Data → Bool
is_kind (Some (text t)) = is_kind_name t
is_kind _ = false

abbrev pub has_envelope : Members → Bool
has_envelope ms = is_version (member_at (codes "apiVersion") ms) && (is_kind (member_at (codes "kind") ms) && if_there is_metadata (member_at (codes "metadata") ms))
