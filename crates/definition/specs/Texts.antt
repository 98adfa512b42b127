-- Forms of the texts in a definition (apiextensions.k8s.io/v1; k8s.io/apimachinery, pkg/util/validation).
use Rattle.std.specs.Prelude.{ℕ, List, [], ◌∷◌, Bool, false, ◌&&◌, ◌||◌, codes}
use Rattle.std.specs.Char.{is_ascii_alphabetic}
use Rattle.std.specs.List.{list_any, starts_with, ends_with}
use Rattle.std.specs.Str.{bytes_eq}
use Rattle.judge.specs.Envelope.{begins, is_lower, is_label, is_dot, is_subdomain}
use lib.Dec.{eqb}

-- the text is one of a list
abbrev pub is_among : List ℕ → List (List ℕ) → Bool
is_among k [] = false
is_among k (w ∷ ws) = bytes_eq k w || is_among k ws

abbrev pub begins_with_letter : List ℕ → Bool
begins_with_letter t = begins is_ascii_alphabetic t

-- IsDNS1035Label: a label that begins with a letter
abbrev pub is_name : List ℕ → Bool
is_name t = is_label t && begins_with_letter t

abbrev pub has_dot : List ℕ → Bool
has_dot t = list_any is_dot t

-- a DNS subdomain (RFC 1123) with at least one dot
abbrev pub is_group : List ℕ → Bool
is_group t = is_subdomain is_lower t && has_dot t

-- the text begins with another, or ends with it
abbrev pub text_begins : List ℕ → List ℕ → Bool
text_begins t u = starts_with eqb t u

abbrev pub text_ends : List ℕ → List ℕ → Bool
text_ends t u = ends_with eqb t u

-- the groups of Kubernetes itself
abbrev pub is_protected : List ℕ → Bool
is_protected t = is_among t (codes "k8s.io" ∷ codes "kubernetes.io" ∷ []) || (text_ends t (codes ".k8s.io") || text_ends t (codes ".kubernetes.io"))

-- the path leads below `spec`, or below `status`
abbrev pub is_below_spec : List ℕ → Bool
is_below_spec t = text_begins t (codes ".spec.")

abbrev pub is_below_status : List ℕ → Bool
is_below_status t = text_begins t (codes ".status.")
