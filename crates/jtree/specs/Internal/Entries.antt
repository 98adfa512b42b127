-- The members that the entries of a map are.
use Rattle.std.specs.Prelude.{ℕ, List, [], ◌∷◌}
use Rattle.jtree.specs.Data.{Members, no_members, member}
use Rattle.jtree.specs.View.{data_of}
use Rattle.jtree.specs.declared.value.Tree.{Tree}

abbrev pub Entry : Type 0
Entry = List ℕ × Tree

abbrev pub members_of_entries : List Entry → Members
members_of_entries [] = no_members
members_of_entries (e ∷ es) = member e.0 (data_of e.1) (members_of_entries es)
