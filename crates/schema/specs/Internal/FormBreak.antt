-- For private contracts: the first break of a form, found member by member and item by item.
use Rattle.std.specs.Prelude.{ℕ, suc, [], ◌∷◌, Option, Some, None, option_map, if◌then◌else◌}
use Rattle.jtree.specs.Data.{Data, Items, no_items, item, Members, no_members, member}
use Rattle.jtree.specs.Data as tree
use Rattle.jtree.specs.Path.{Step, name, index, Path}
use Rattle.schema.specs.Document.Forms.{Form, form_below, has_form}

abbrev pub below : Step → Option Path → Option Path
below s o = option_map (λ path. s ∷ path) o

abbrev pub or_else : Option Path → Option Path → Option Path
or_else None o = o
or_else (Some path) o = Some path

abbrev mutual
  pub parts_break : Form → Data → Option Path
  parts_break f (tree.list ds) = items_break f 0 ds
  parts_break f (tree.object ms) = members_break f ms
  parts_break _ _ = None

  pub items_break : Form → ℕ → Items → Option Path
  items_break f i no_items = None
  items_break f i (item d ds) =
      or_else (below (index i) (if has_form (form_below f (index i)) d then parts_break (form_below f (index i)) d else Some [])) (items_break f (suc i) ds)

  pub members_break : Form → Members → Option Path
  members_break f no_members = None
  members_break f (member k d ms) =
      or_else (below (name k) (if has_form (form_below f (name k)) d then parts_break (form_below f (name k)) d else Some [])) (members_break f ms)

abbrev pub first_break : Form → Data → Option Path
first_break f d = if has_form f d then parts_break f d else Some []
