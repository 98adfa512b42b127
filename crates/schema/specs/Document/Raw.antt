-- The schema of a version as it is written, and the profile that it is judged by: that of this project, or that of a cluster.
use Rattle.jtree.specs.Data.{Data}
use Rattle.schema.specs.declared.profile.Profile.{Profile}

pub record Raw : Type 0 where
  pub profile : Profile
  pub tree : Data

abbrev pub raw_by : Profile → Data → Raw
raw_by profile tree = record { profile = profile; tree = tree }
