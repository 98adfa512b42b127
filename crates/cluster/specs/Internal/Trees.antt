-- The definitions of this crate for the trees of the code.
use Rattle.std.specs.Prelude.{◌≡◌, Bool, false, Option, Some, option_map, if◌then◌else◌, not, codes}
use Rattle.std.specs.Str.{bytes_eq}
use Rattle.std.proofs.Common.{Bor}
use Rattle.jtree.specs.Data.{Data, IsTree}
use Rattle.jtree.specs.View.{data_of, tree_from}
use Rattle.jtree.specs.declared.value.Tree.{Tree}
use Rattle.jtree.specs.declared.value.Member.{Member}
use Rattle.cluster.specs.Keywords.{member_schema, keeps_undeclared, is_embedded}
use Rattle.cluster.specs.Pruned.{is_enveloped, is_kept, is_entered, pruned}
use Rattle.cluster.specs.WithoutNulls.{is_dropped, without_nulls}
use Rattle.cluster.specs.Metadata.{entry, entries, object_meta, has_entries, stays_in_metadata, stays_in_entry, is_metadata, with_object_meta}
use Rattle.cluster.specs.Filled.{filled, filled_part}

-- the schema that a reference may hold
abbrev pub schema_of : Option (Bor Tree) → Option Data
schema_of s = option_map (λ t. data_of t.now) s

abbrev pub pruned_tree : Bool → Bool → Option Data → Tree → Tree
pruned_tree is_resource keeps s t = tree_from (pruned is_resource keeps s (data_of t))

abbrev pub pruned_member : Bool → Option Data → Member → Member
pruned_member is_resource s m = record {
  name = m.name;
  tree = if is_entered is_resource s m.name then pruned_tree (is_embedded (member_schema m.name s)) (keeps_undeclared (member_schema m.name s)) (member_schema m.name s) m.tree else m.tree;
}

abbrev pub is_kept_member : Bool → Option Data → Member → Bool
is_kept_member is_resource s m = is_kept is_resource s m.name

abbrev pub tree_without : Bool → Option Data → Tree → Tree
tree_without is_resource s t = tree_from (without_nulls is_resource s (data_of t))

abbrev pub member_without : Bool → Option Data → Member → Member
member_without is_resource s m = record { name = m.name; tree = if is_enveloped is_resource m.name then m.tree else tree_without false (member_schema m.name s) m.tree }

abbrev pub is_left_member : Bool → Option Data → Member → Bool
is_left_member is_resource s m = not (is_dropped is_resource s m.name (data_of m.tree))

abbrev pub tree_with_meta : Bool → Option Data → Tree → Tree
tree_with_meta is_resource s t = tree_from (with_object_meta is_resource s (data_of t))

abbrev pub meta_tree : Tree → Tree
meta_tree t = tree_from (object_meta (data_of t))

abbrev pub member_with_meta : Bool → Option Data → Member → Member
member_with_meta is_resource s m = record {
  name = m.name;
  tree = if is_metadata is_resource m.name then meta_tree m.tree else tree_with_meta (is_embedded (member_schema m.name s)) (member_schema m.name s) m.tree;
}

abbrev pub entry_tree : Bool → Tree → Tree
entry_tree managed t = tree_from (entry managed (data_of t))

abbrev pub entries_tree : Bool → Tree → Tree
entries_tree managed t = tree_from (entries managed (data_of t))

abbrev pub meta_member : Member → Member
meta_member m = record { name = m.name; tree = if has_entries m.name then entries_tree (bytes_eq m.name (codes "managedFields")) m.tree else m.tree }

abbrev pub stays_member : Member → Bool
stays_member m = stays_in_metadata m.name (data_of m.tree)

abbrev pub stays_entry_member : Bool → Member → Bool
stays_entry_member managed m = stays_in_entry managed m.name (data_of m.tree)

-- the member that is filled by the schema of its object
pub record IsFilledMember (s : Data) (m n : Member) : Type 0 where
  pub name : n.name ≡ m.name
  pub filled : data_of n.tree ≡ filled_part filled (member_schema m.name (Some s)) (data_of m.tree)
  pub tree : IsTree (data_of n.tree)
