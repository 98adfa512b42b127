-- Validity level by level, as a walk over an object finds it.
use Rattle.std.specs.Prelude.{ℕ, Bool, true, false, Option, Some, None, option_map, not, ◌&&◌, ◌||◌, is_some}
use Rattle.jtree.specs.Data.{Data, Items, no_items, item, Members, no_members, member}
use Rattle.jtree.specs.Data as tree
use Rattle.jtree.specs.Path.{member_at}
use Rattle.schema.specs.Nodes.Node.{Node, node, scalar, object, map, list, open_, Fields, no_fields, field}
use Rattle.schema.specs.Nodes.ByPlace.{field_at}
use Rattle.schema.specs.declared.node.Bounds.{Bounds}
use Rattle.stored.specs.Objects.Tests.{accepts_scalar, is_below, is_above, holds, meets_junctors}
use Rattle.stored.specs.Objects.Fault.{items_count, members_count, are_alike, accepts_null}
use Rattle.stored.specs.Objects.StoredByParts.{are_apart}

abbrev pub is_within : Bounds → ℕ → Bool
is_within b n = not (is_below b.least n) && not (is_above b.most n)

-- no required field is absent
abbrev pub has_required : Fields → Members → Bool
has_required no_fields ms = true
has_required (field k N required default fs) ms = (not required || is_some (member_at k ms)) && has_required fs ms

abbrev pub true_if_any : Option Bool → Bool
true_if_any None = true
true_if_any (Some b) = b

abbrev mutual
  pub is_valid : Node → Data → Bool
  is_valid (node nullable description sort) tree.null = accepts_null (node nullable description sort)
  is_valid (node nullable description (scalar kind cs)) v = accepts_scalar kind v && holds cs v
  is_valid (node nullable description (object fs preserves type bounds cs)) (tree.object ms) =
      is_within bounds (members_count ms) && (meets_junctors cs (tree.object ms) && (has_required fs ms && are_fields_valid fs ms))
  is_valid (node nullable description (map N type bounds)) (tree.object ms) = is_within bounds (members_count ms) && are_values_valid N ms
  is_valid (node nullable description (list N type keys bounds)) (tree.list ds) =
      is_within bounds (items_count ds) && (are_apart (are_alike type keys) ds && are_items_valid N ds)
  is_valid (node nullable description open_) v = true
  is_valid _ _ = false

  -- undeclared members are
  pub are_fields_valid : Fields → Members → Bool
  are_fields_valid fs no_members = true
  are_fields_valid fs (member k d ms) = true_if_any (option_map (λ f. is_valid f.node d) (field_at k fs)) && are_fields_valid fs ms

  pub are_values_valid : Node → Members → Bool
  are_values_valid N no_members = true
  are_values_valid N (member k d ms) = is_valid N d && are_values_valid N ms

  pub are_items_valid : Node → Items → Bool
  are_items_valid N no_items = true
  are_items_valid N (item d ds) = is_valid N d && are_items_valid N ds
