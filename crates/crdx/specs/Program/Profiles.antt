-- The profiles by their names, and how documents are read under each (this project's own).
use Rattle.std.specs.Prelude.{ℕ, List, if◌then◌else◌, codes}
use Rattle.std.specs.Str.{bytes_eq}
use Rattle.jtree.specs.declared.read_with.Numbers.{Numbers}
use Rattle.jtree.specs.declared.read_with.Numbers.TheVariants.{Integers, All}
use Rattle.schema.specs.declared.profile.Profile.{Profile}
use Rattle.schema.specs.declared.profile.Profile.TheVariants.{Core, Cluster}

abbrev pub named : List ℕ → Profile
named name = if bytes_eq name (codes "cluster") then Cluster else Core

abbrev pub numbers_by : Profile → Numbers
numbers_by Core = Integers
numbers_by Cluster = All
