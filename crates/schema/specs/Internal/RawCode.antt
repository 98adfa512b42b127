-- Raw schemas as trees of numbers, one to one: what a proof needs to distinguish two of them.
use Rattle.std.specs.Prelude.{◌≡◌, Bool, true, false, if◌then◌else◌}
use Rattle.std.specs.Coded.{Coded, code_by, coded×, coded_bool}
use Rattle.std.proofs.Common.{ap, refl}
use Rattle.jtree.specs.Data.{Data}
use Rattle.jtree.specs.Internal.Code.{data_coded}
use Rattle.schema.specs.Document.Raw.{Raw, raw_by}
use Rattle.schema.specs.declared.profile.Profile.{Profile}
use Rattle.schema.specs.declared.profile.Profile.TheVariants.{Core, Cluster}

abbrev is_cluster : Profile → Bool
is_cluster Core = false
is_cluster Cluster = true

abbrev profile_from : Bool → Profile
profile_from false = Core
profile_from true = Cluster

pub profile_back : (p : Profile) → profile_from (is_cluster p) ≡ p
profile_back Core = refl
profile_back Cluster = refl

abbrev pub raw_coded : Coded Raw
raw_coded = code_by (Bool × Data) (coded× coded_bool data_coded)
    (λ r. (is_cluster r.profile, r.tree)) (λ p. raw_by (profile_from p.0) p.1)
    (λ r. ap (λ p. raw_by p r.tree) (profile_back r.profile))
