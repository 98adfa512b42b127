-- A value meets a schema: it passes the tests of the schema's keywords, it meets all branches of `allOf`, and its parts meet their schemas
-- (OpenAPI 3.0, Schema Object). A schema that is a truth value is met by every value or by none.
use Rattle.std.specs.Prelude.{ℕ, List, [], ◌∷◌, Bool, true, Option, Some, None, if◌then◌else◌, ◌&&◌, codes}
use Rattle.std.specs.Str.{bytes_eq}
use Rattle.jtree.specs.Data.{Data, null, boolean, list, object, Items, no_items, item, Members, no_members, member}
use Rattle.judge.specs.Keywords.{Texts, Asks, Junctors, meets_all, passes_if_asked, all_tests}
use Rattle.judge.specs.declared.test.Test.{Test}

-- what stands under a keyword: as a schema, as a list of schemas, and as schemas by name
pub record Part : Type 0 where
  pub one : Asks
  pub many : List Asks
  pub named : List (List ℕ × Asks)

abbrev pub under : {A : Type 0} → List ℕ → List (List ℕ × A) → Option A
under k [] = None
under k (x ∷ xs) = if bytes_eq k x.0 then Some x.1 else under k xs

abbrev pub many_of : Option Part → List Asks
many_of None = []
many_of (Some p) = p.many

abbrev pub one_of : Option Part → Option Asks
one_of None = None
one_of (Some p) = Some p.one

abbrev pub named_of : List ℕ → Option Part → Option Asks
named_of k None = None
named_of k (Some p) = under k p.named

abbrev pub first_there : {A : Type 0} → Option A → Option A → Option A
first_there None o = o
first_there (Some x) o = Some x

abbrev pub junctors : List (List ℕ × Part) → Junctors
junctors ps = record { any = many_of (under (codes "anyOf") ps); one = many_of (under (codes "oneOf") ps); none = one_of (under (codes "not") ps) }

abbrev pub passes_all : Texts → Members → Junctors → List Test → Data → Bool
passes_all m ks js [] v = true
passes_all m ks js (t ∷ ts) v = passes_if_asked m ks js t v && passes_all m ks js ts v

abbrev pub branches_pass : List (List ℕ × Part) → Data → Bool
branches_pass ps null = true
branches_pass ps v = meets_all (many_of (under (codes "allOf") ps)) v

-- what is asked of a member: by its name under `properties`, and else by `additionalProperties`
abbrev pub asked_of_member : List (List ℕ × Part) → List ℕ → Option Asks
asked_of_member ps k = first_there (named_of k (under (codes "properties") ps)) (one_of (under (codes "additionalProperties") ps))

abbrev pub meets_if : Option Asks → Asks
meets_if None v = true
meets_if (Some test) v = test v

abbrev pub members_pass : (List ℕ → Option Asks) → Members → Bool
members_pass test no_members = true
members_pass test (member k w ms) = meets_if (test k) w && members_pass test ms

abbrev pub items_pass : Option Asks → Items → Bool
items_pass test no_items = true
items_pass test (item w ds) = meets_if test w && items_pass test ds

abbrev pub parts_pass : List (List ℕ × Part) → Data → Bool
parts_pass ps (object ms) = members_pass (asked_of_member ps) ms
parts_pass ps (list ds) = items_pass (one_of (under (codes "items") ps)) ds
parts_pass ps _ = true

abbrev mutual
  pub meets : Texts → Data → Asks
  meets m (object ks) v = passes_all m ks (junctors (parts m ks)) all_tests v && (branches_pass (parts m ks) v && parts_pass (parts m ks) v)
  meets m (boolean b) v = b
  meets m _ v = true

  pub parts : Texts → Members → List (List ℕ × Part)
  parts m no_members = []
  parts m (member k d ks) = (k, record { one = meets m d; many = branches m d; named = fields m d }) ∷ parts m ks

  pub branches : Texts → Data → List Asks
  branches m (list ds) = branch_list m ds
  branches m _ = []

  pub branch_list : Texts → Items → List Asks
  branch_list m no_items = []
  branch_list m (item d ds) = meets m d ∷ branch_list m ds

  pub fields : Texts → Data → List (List ℕ × Asks)
  fields m (object ks) = field_list m ks
  fields m _ = []

  pub field_list : Texts → Members → List (List ℕ × Asks)
  field_list m no_members = []
  field_list m (member k d ks) = (k, meets m d) ∷ field_list m ks
