use Rattle.std.proofs.Common.{sym, subst}
use Rattle.std.specs.Prelude.{◌↔◌, not, IsTrue}
use Rattle.schema.specs.Internal.PlaceView.{step_of}
use Rattle.schema.specs.Internal.RuleParts.{IsOtherName}
use Rattle.schema.proofs.RuleLemmas.{other_name}
use Rattle.schema.proofs.rules.is_other_name.Goals as goal

pub returns-in-Property : goal.returns-in-Property
returns-in-Property c = subst (λ s. IsTrue (not c.is_metadata_name.result) ↔ IsOtherName (step_of s)) (sym c.in-Property.is) (other_name c.in-Property.name.now _ c.is_metadata_name.ensures)
