-- Whether two trees are the same where numbers compare by their values: `0.5` and `0.50` are then the same, and `==` tells them apart
-- (this project's own, for whoever judges as the API server does, which holds such numbers as floats).
use Rattle.std.specs.Prelude.{◌&&◌, Bool, true, false}
use Rattle.std.specs.Ordering.{is_eq}
use Rattle.std.specs.Str.{bytes_eq}
use Rattle.jtree.specs.Data.{Data, number, list, object, Items, no_items, item, Members, no_members, member}
use Rattle.jtree.specs.NumberOrder.{value_cmp}
use Rattle.jtree.specs.Order.{tree_cmp}

abbrev mutual
  pub same_value : Data → Data → Bool
  same_value (number s) (number t) = is_eq (value_cmp s t)
  same_value (list ds) (list es) = same_values ds es
  same_value (object ms) (object ns) = same_members ms ns
  same_value u v = is_eq (tree_cmp u v)

  pub same_values : Items → Items → Bool
  same_values no_items no_items = true
  same_values (item d ds) (item e es) = same_value d e && same_values ds es
  same_values _ _ = false

  pub same_members : Members → Members → Bool
  same_members no_members no_members = true
  same_members (member k d ms) (member l e ns) = (bytes_eq k l && same_value d e) && same_members ms ns
  same_members _ _ = false
