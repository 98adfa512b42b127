-- Whether defaulting leaves a value as it is, level by level.
use Rattle.std.specs.Prelude.{Bool, true, false, Option, Some, None, ◌&&◌, ◌||◌, is_none}
use Rattle.jtree.specs.Data.{Data, Items, no_items, item, Members, no_members, member}
use Rattle.jtree.specs.Data as tree
use Rattle.jtree.specs.Path.{member_at}
use Rattle.schema.specs.Nodes.Node.{Node, node, object, map, list, Fields, no_fields, field}
use Rattle.stored.specs.Objects.Becomes.{is_nullable}

abbrev pub is_null_default : Option Data → Bool
is_null_default (Some tree.null) = true
is_null_default _ = false

-- What is under a name stays: where nothing is, there is no default; a null that is not accepted gives way to a default,
-- unless that is null too; and any other value passes a test.
abbrev pub stays : Bool → Option Data → (Data → Bool) → Option Data → Bool
stays nullable default test None = is_none default
stays nullable default test (Some tree.null) = nullable || is_null_default default
stays nullable default test (Some v) = test v

abbrev pub all_values : (Data → Bool) → Members → Bool
all_values test no_members = true
all_values test (member k d ms) = test d && all_values test ms

abbrev pub all_items : (Data → Bool) → Items → Bool
all_items test no_items = true
all_items test (item d ds) = test d && all_items test ds

abbrev mutual
  pub is_filled : Node → Data → Bool
  is_filled (node nullable description (object fs preserves type bounds cs)) (tree.object ms) = are_fields_filled fs ms
  is_filled (node nullable description (map N type bounds)) (tree.object ms) = all_values (λ v. stays (is_nullable N) None (λ w. is_filled N w) (Some v)) ms
  is_filled (node nullable description (list N type keys bounds)) (tree.list ds) = all_items (λ v. is_filled N v) ds
  is_filled _ _ = true

  pub are_fields_filled : Fields → Members → Bool
  are_fields_filled no_fields ms = true
  are_fields_filled (field k N required default fs) ms = stays (is_nullable N) default (λ v. is_filled N v) (member_at k ms) && are_fields_filled fs ms
