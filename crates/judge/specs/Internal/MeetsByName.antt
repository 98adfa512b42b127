-- For private contracts: how a value meets a schema, by the names of keywords.
use Rattle.std.specs.Prelude.{ℕ, List, [], ◌∷◌, Bool, true, Option, Some, None, option_map, ◌&&◌, codes}
use Rattle.jtree.specs.Data.{Data, null, list, object, Members, no_members, member}
use Rattle.jtree.specs.Path.{member_at}
use Rattle.judge.specs.Keywords.{Texts, Asks, Junctors, meets_all, passes_if_asked, all_tests}
use Rattle.judge.specs.Asked.{member_schema, item_schema}
use Rattle.judge.specs.Meets.{meets, branches, meets_if, items_pass}
use Rattle.judge.specs.declared.test.Test.{Test}

abbrev pub branches_if : Texts → Option Data → List Asks
branches_if m None = []
branches_if m (Some d) = branches m d

abbrev pub junctors_of : Texts → Members → Junctors
junctors_of m ks = record {
  any = branches_if m (member_at (codes "anyOf") ks);
  one = branches_if m (member_at (codes "oneOf") ks);
  none = option_map (meets m) (member_at (codes "not") ks);
}

abbrev pub passes_at : Texts → Members → Test → Data → Bool
passes_at m ks t v = passes_if_asked m ks (junctors_of m ks) t v

abbrev pub passes_each : Texts → Members → List Test → Data → Bool
passes_each m ks [] v = true
passes_each m ks (t ∷ ts) v = passes_at m ks t v && passes_each m ks ts v

abbrev pub branches_at : Texts → Members → Data → Bool
branches_at m ks null = true
branches_at m ks v = meets_all (branches_if m (member_at (codes "allOf") ks)) v

abbrev pub member_passes : Texts → Members → List ℕ → Data → Bool
member_passes m ks k w = meets_if (option_map (meets m) (member_schema k (object ks))) w

abbrev pub members_at : Texts → Members → Members → Bool
members_at m ks no_members = true
members_at m ks (member k w ms) = member_passes m ks k w && members_at m ks ms

abbrev pub parts_at : Texts → Members → Data → Bool
parts_at m ks (object ms) = members_at m ks ms
parts_at m ks (list ds) = items_pass (option_map (meets m) (item_schema (object ks))) ds
parts_at m ks _ = true

abbrev pub meets_at : Texts → Members → Data → Bool
meets_at m ks v = passes_each m ks all_tests v && (branches_at m ks v && parts_at m ks v)
