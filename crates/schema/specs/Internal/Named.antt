-- For private contracts: the names that the junctors of a schema ask for, in the order in which they are written.
use Rattle.std.specs.Prelude.{ℕ, zero, suc, List, [], ◌∷◌, ◌++◌, Bool, true, false, Option, Some, None, if◌then◌else◌, codes}
use Rattle.std.specs.Str.{bytes_eq}
use Rattle.jtree.specs.Data.{Data, list, object, Items, no_items, item, Members, no_members, member}
use Rattle.schema.specs.Document.Texts.{is_among}
use Rattle.schema.specs.Rules.Keywords.{texts_of}

-- what the value of a keyword has of such names
pub data NamePart : Type 0 where
  names : NamePart
  some_branches : NamePart
  one_branch : NamePart
  no_name : NamePart

-- in a branch `required` is asked for
abbrev pub name_part : Bool → List ℕ → NamePart
name_part in_branch k =
    if bytes_eq k (codes "required") then (if in_branch then names else no_name) else
    if bytes_eq k (codes "allOf") then some_branches else
    if bytes_eq k (codes "anyOf") then some_branches else
    if bytes_eq k (codes "oneOf") then some_branches else
    if bytes_eq k (codes "not") then one_branch else no_name

abbrev mutual
  pub part_names : NamePart → Data → List (List ℕ)
  part_names names (list ds) = texts_of ds
  part_names some_branches (list ds) = item_names ds
  part_names one_branch (object ms) = member_names true ms
  part_names _ _ = []

  pub item_names : Items → List (List ℕ)
  item_names no_items = []
  item_names (item d ds) = part_names one_branch d ++ item_names ds

  pub member_names : Bool → Members → List (List ℕ)
  member_names in_branch no_members = []
  member_names in_branch (member k d ms) = part_names (name_part in_branch k) d ++ member_names in_branch ms

-- the first that is not known
abbrev pub other_of : List (List ℕ) → List (List ℕ) → Option (List ℕ)
other_of known [] = None
other_of known (k ∷ ks) = if is_among k known then other_of known ks else Some k

abbrev pub some_passes : (List ℕ → Bool) → Option (List ℕ) → Bool
some_passes test None = false
some_passes test (Some k) = test k

-- there are so many besides those that are known
abbrev pub has_others : ℕ → List (List ℕ) → List (List ℕ) → Bool
has_others zero known ks = true
has_others (suc n) known ks = some_passes (λ k. has_others n (k ∷ known) ks) (other_of known ks)
