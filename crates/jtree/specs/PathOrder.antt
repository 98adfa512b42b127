-- Path order: paths compare as lists of names and indexes, names by bytes, indexes by number, and a path comes before
-- those that continue it (this project's own). So `/a/b` comes before `/a-b`.
use Rattle.std.specs.Prelude.{◌≢◌}
use Rattle.std.specs.Ordering.{nat_cmp}
use Rattle.std.specs.Cmp.Lexicographic.{slice_cmp}
use Rattle.std.specs.declared.cmp.Ordering.{Ordering}
use Rattle.std.specs.declared.cmp.Ordering.TheVariants.{Less, Greater}
use Rattle.jtree.specs.Order.{text_cmp}
use Rattle.jtree.specs.Path.{Step, name, index, Path}

abbrev pub step_cmp : Step → Step → Ordering
step_cmp (name k) (name l) = text_cmp k l
step_cmp (index i) (index j) = nat_cmp i j
step_cmp (name k) (index j) = Less
step_cmp (index i) (name l) = Greater

abbrev pub path_cmp : Path → Path → Ordering
path_cmp = slice_cmp step_cmp

-- the first path at which something holds
pub record IsFirst (Holds : Path → Type 0) (path : Path) : Type 0 where
  pub here : Holds path
  pub none_before : (earlier : Path) → Holds earlier → path_cmp earlier path ≢ Less
