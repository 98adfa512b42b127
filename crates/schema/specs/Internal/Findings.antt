-- For private contracts: the pairs of a keyword and a reason, which of them hold of a place.
use Rattle.std.specs.Prelude.{◌≡◌, ℕ, List, map, flat_map}
use Rattle.jtree.specs.Data.{Data, object}
use Rattle.jtree.specs.declared.value.Member.{Member}
use Rattle.schema.specs.Document.Raw.{raw_by}
use Rattle.schema.specs.Internal.PlaceView.{place_of}
use Rattle.schema.specs.Internal.Subschemas.{IsSubschema}
use Rattle.schema.specs.Internal.Taken.{Adds}
use Rattle.schema.specs.Rules.Reasons.{Explains}
use Rattle.schema.specs.Rules.ReasonTable.{all_reasons}
use Rattle.schema.specs.Rules.Explained.{finding}
use Rattle.schema.specs.declared.listing.Subschema.{Subschema}
use Rattle.schema.specs.declared.profile.Profile.{Profile}
use Rattle.schema.specs.declared.violation.Rule.{Rule}
use Rattle.schema.specs.declared.reason.Reason.{Reason}
use Rattle.schema.specs.declared.reason.Finding.{Finding}

abbrev pub findings_at : List ℕ → List Reason → List Finding
findings_at k reasons = map (finding k) reasons

-- with the names of these members
abbrev pub findings_among : List Member → List Finding
findings_among members = flat_map (λ m. findings_at m.name all_reasons) members

abbrev pub ExplainedBy : Profile → Subschema → Rule → Data → Finding → Type 0
ExplainedBy profile v r raw f = Explains (raw_by profile raw) (place_of v.place.items) (object v.schema.now) r f.keyword f.reason

abbrev pub AddsFindings : Profile → Subschema → Rule → List Finding → List Finding → List Finding → Type 0
AddsFindings profile v r findings old new = Adds (λ raw. IsSubschema raw v) (ExplainedBy profile v r) (λ raw f g. f ≡ g) findings old new
