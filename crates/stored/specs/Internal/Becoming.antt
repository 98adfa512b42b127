-- What is at each path below a part, where there is one.
use Rattle.std.specs.Prelude.{◌≡◌, Option, option_map, option_and_then}
use Rattle.jtree.specs.Data.{Data}
use Rattle.jtree.specs.Path.{Path, part_at}
use Rattle.stored.specs.Objects.Parts.{Part, value_of, Leading, part_by_path}
use Rattle.stored.specs.Objects.Becomes.{label}

-- the part becomes this value, or both are absent
abbrev pub PartBecomes : Leading → Option Part → Option Data → Type 0
PartBecomes lead q w =
    (path : Path) → option_map label (option_and_then (λ d. part_at d path) w) ≡ option_map (λ r. label (value_of r)) (option_and_then (λ r. part_by_path lead r path) q)
