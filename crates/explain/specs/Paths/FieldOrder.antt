-- The order of fields: a path comes before those that continue it, and siblings by the bytes of their names (this project's
-- own). Items and values have no siblings.
use Rattle.std.specs.Cmp.Lexicographic.{slice_cmp}
use Rattle.std.specs.declared.cmp.Ordering.{Ordering}
use Rattle.std.specs.declared.cmp.Ordering.TheVariants.{Less, Equal, Greater}
use Rattle.jtree.specs.Order.{text_cmp}
use Rattle.explain.specs.Paths.FieldPath.{FieldStep, field, item, value, FieldPath}

abbrev pub step_cmp : FieldStep → FieldStep → Ordering
step_cmp (field k) (field l) = text_cmp k l
step_cmp (field k) _ = Less
step_cmp _ (field l) = Greater
step_cmp item value = Less
step_cmp value item = Greater
step_cmp _ _ = Equal

abbrev pub path_cmp : FieldPath → FieldPath → Ordering
path_cmp = slice_cmp step_cmp
