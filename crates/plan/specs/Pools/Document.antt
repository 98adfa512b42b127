-- The pools document: an object with any of the lists `integers`, `strings`, `names`, `any` and `present`, and of `paths` and `fixed`,
-- objects of lists; where a schema is judged as a cluster does, of the list `numbers` too (this project's own).
use Rattle.std.specs.Prelude.{◌≡◌, ℕ, ℤ, List, [], ◌∷◌, Bool, true, false, Option, Some, None, if◌then◌else◌, filter, filter_map, codes}
use Rattle.std.specs.Str.{bytes_eq}
use Rattle.jtree.specs.Data.{Data, integer, number, text, list, object, Items, Members, no_members}
use Rattle.jtree.specs.Kind.{is_integer, is_text, is_list, is_object}
use Rattle.jtree.specs.Path.{name, index, Path, item_at, member_at, under}
use Rattle.schema.specs.declared.profile.Profile.{Profile}
use Rattle.schema.specs.declared.profile.Profile.TheVariants.{Core, Cluster}
use Rattle.plan.specs.Pools.Pools.{Pools, items_list}

-- the form of a member: a list of entries that pass a test, or an object of lists; no pool has another name
pub data PoolForm : Type 0 where
  entries : (Data → Bool) → PoolForm
  lists : PoolForm
  unknown : PoolForm

-- an integer or another number
abbrev pub is_any_number : Data → Bool
is_any_number (integer z) = true
is_any_number (number s) = true
is_any_number _ = false

-- `numbers` is a pool by the profile of a cluster alone
abbrev pub numbers_form : Profile → PoolForm
numbers_form Core = unknown
numbers_form Cluster = entries is_any_number

-- by its name
abbrev pub pool_form : Profile → List ℕ → PoolForm
pool_form profile k =
    if bytes_eq k (codes "integers") then entries is_integer else
    if bytes_eq k (codes "strings") then entries is_text else
    if bytes_eq k (codes "names") then entries is_text else
    if bytes_eq k (codes "any") then entries (λ d. true) else
    if bytes_eq k (codes "paths") then lists else
    if bytes_eq k (codes "fixed") then lists else
    if bytes_eq k (codes "present") then entries is_text else
    if bytes_eq k (codes "numbers") then numbers_form profile else unknown

-- where a member breaks the form, counted from the member: at itself where its name is not that of a pool or it is not a list, or
-- not an object of lists, and at each entry of another kind
pub data BreaksPool : PoolForm → Data → Path → Type 0 where
  other_name : (d : Data) → BreaksPool unknown d []
  no_list : (test : Data → Bool) (d : Data) → is_list d ≡ false → BreaksPool (entries test) d []
  other_entry : (test : Data → Bool) (ds : Items) (i : ℕ) (v : Data) → item_at i ds ≡ Some v → test v ≡ false → BreaksPool (entries test) (list ds) (index i ∷ [])
  no_lists : (d : Data) → is_object d ≡ false → BreaksPool lists d []
  no_list_at : (ms : Members) (k : List ℕ) (v : Data) → member_at k ms ≡ Some v → is_list v ≡ false → BreaksPool lists (object ms) (name k ∷ [])

-- where a document breaks the form: at itself where it is not an object, and where its members do
pub data BreaksForm (profile : Profile) : Data → Path → Type 0 where
  no_object : (d : Data) → is_object d ≡ false → BreaksForm profile d []
  in_member : (ms : Members) (k : List ℕ) (v : Data) (path : Path) → member_at k ms ≡ Some v → BreaksPool (pool_form profile k) v path → BreaksForm profile (object ms) (name k ∷ path)

abbrev pub HasFormBy : Profile → Data → Type 0
HasFormBy profile d = (path : Path) → BreaksForm profile d path → ⊥

-- by this project's own profile
abbrev pub HasForm : Data → Type 0
HasForm d = HasFormBy Core d

-- a missing member is an empty pool
abbrev pub entries_of : Option Data → List Data
entries_of (Some (list ds)) = items_list ds
entries_of _ = []

abbrev pub members_of : Option Data → Members
members_of (Some (object ms)) = ms
members_of _ = no_members

abbrev pub integer_of : Data → Option ℤ
integer_of (integer z) = Some z
integer_of _ = None

abbrev pub text_of : Data → Option (List ℕ)
text_of (text s) = Some s
text_of _ = None

-- the pools of a document that has the form by some profile; entries are as written, repeats among them
abbrev pub pools_of : Data → Pools
pools_of d = record {
  integers = filter_map integer_of (entries_of (under d (codes "integers")));
  numbers = filter is_any_number (entries_of (under d (codes "numbers")));
  strings = filter_map text_of (entries_of (under d (codes "strings")));
  names = filter_map text_of (entries_of (under d (codes "names")));
  any = entries_of (under d (codes "any"));
  paths = members_of (under d (codes "paths"));
  fixed = members_of (under d (codes "fixed"));
  present = filter_map text_of (entries_of (under d (codes "present")));
}
