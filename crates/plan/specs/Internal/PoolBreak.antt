-- The first place of a pools document that breaks its form, found member by member and entry by entry.
use Rattle.std.specs.Prelude.{ℕ, suc, List, [], ◌∷◌, Bool, true, Option, Some, None, option_map, if◌then◌else◌}
use Rattle.jtree.specs.Data.{Data, list, object, Items, no_items, item, Members, no_members, member}
use Rattle.jtree.specs.Kind.{is_integer, is_text, is_list}
use Rattle.jtree.specs.Path.{name, index, Path}
use Rattle.schema.specs.declared.profile.Profile.{Profile}
use Rattle.plan.specs.Pools.Document.{PoolForm, entries, lists, unknown, pool_form, is_any_number}
use Rattle.plan.specs.declared.pool_form.EntryKind.{EntryKind}
use Rattle.plan.specs.declared.pool_form.EntryKind.TheVariants as code
use Rattle.plan.specs.declared.pool_form.PoolForm.{PoolForm as CodeForm}
use Rattle.plan.specs.declared.pool_form.PoolForm.TheVariants as form

-- the test of an entry for a kind of the code
abbrev pub test_of : EntryKind → Data → Bool
test_of code.Integer = is_integer
test_of code.Number = is_any_number
test_of code.Text = is_text
test_of code.Any = λ d. true

-- the form of a member for a form of the code
abbrev pub form_of : CodeForm → PoolForm
form_of (form.Entries kind) = entries (test_of kind)
form_of form.Lists = lists
form_of form.Unknown = unknown

abbrev pub below_name : List ℕ → Option Path → Option Path
below_name k o = option_map (λ path. name k ∷ path) o

abbrev pub or_else : Option Path → Option Path → Option Path
or_else None o = o
or_else (Some path) o = Some path

-- the first of what is found in each member
abbrev pub members_break : (List ℕ → Data → Option Path) → Members → Option Path
members_break break no_members = None
members_break break (member k d ms) = or_else (break k d) (members_break break ms)

-- the place of the first item that fails the test
abbrev pub other_item : (Data → Bool) → Items → Option ℕ
other_item test no_items = None
other_item test (item d ds) = if test d then option_map suc (other_item test ds) else Some 0

-- at its name, where a member is not a list
abbrev pub list_break : List ℕ → Data → Option Path
list_break k d = below_name k (if is_list d then None else Some [])

-- the first break below the name of a pool
abbrev pub pool_break : PoolForm → Data → Option Path
pool_break (entries test) (list ds) = option_map (λ i. index i ∷ []) (other_item test ds)
pool_break lists (object ms) = members_break list_break ms
pool_break _ _ = Some []

abbrev pub member_break : Profile → List ℕ → Data → Option Path
member_break profile k d = below_name k (pool_break (pool_form profile k) d)

abbrev pub first_break : Profile → Data → Option Path
first_break profile (object ms) = members_break (member_break profile) ms
first_break profile _ = Some []
