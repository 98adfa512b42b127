-- What some values have one step below them: under a name, as items of lists, and as values of maps (this project's own).
use Rattle.std.specs.Prelude.{ℕ, List, [], ◌∷◌, filter_map, flat_map}
use Rattle.jtree.specs.Data.{Data, list, object, Members, no_members, member}
use Rattle.jtree.specs.Path.{under}
use Rattle.plan.specs.Pools.Pools.{items_list}

abbrev pub field_values : List ℕ → List Data → List Data
field_values k vs = filter_map (λ v. under v k) vs

abbrev pub items_in : Data → List Data
items_in (list ds) = items_list ds
items_in _ = []

abbrev pub item_values : List Data → List Data
item_values vs = flat_map items_in vs

abbrev pub trees_of : Members → List Data
trees_of no_members = []
trees_of (member k d ms) = d ∷ trees_of ms

abbrev pub names_of : Members → List (List ℕ)
names_of no_members = []
names_of (member k d ms) = k ∷ names_of ms

abbrev pub members_in : Data → Members
members_in (object ms) = ms
members_in _ = no_members

abbrev pub member_values : List Data → List Data
member_values vs = flat_map (λ v. trees_of (members_in v)) vs

abbrev pub member_names : List Data → List (List ℕ)
member_names vs = flat_map (λ v. names_of (members_in v)) vs
