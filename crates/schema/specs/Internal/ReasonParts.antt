-- For private contracts: what a reason asks of one place and its schema.
use Rattle.std.specs.Prelude.{◌≡◌, ◌⊎◌, ℕ, List, true, IsTrue, option_map}
use Rattle.jtree.specs.Data.{object}
use Rattle.schema.specs.Document.Places.{is_inside}
use Rattle.schema.specs.Internal.KindView.{kind_view}
use Rattle.schema.specs.Internal.PlaceView.{place_of}
use Rattle.schema.specs.Rules.Junctors.{asks_presence}
use Rattle.schema.specs.Rules.Kinds.{kind_of}
use Rattle.schema.specs.Rules.Reasons.{is_branch_reason, is_type_reason}
use Rattle.schema.specs.declared.listing.Subschema.{Subschema}
use Rattle.schema.specs.declared.reason.Reason.{Reason}
use Rattle.schema.specs.declared.reasons.PlaceFacts.{PlaceFacts}

-- what is known of the place
pub record AreFacts (f : PlaceFacts) (v : Subschema) : Type 0 where
  pub inside_is : f.is_inside ≡ is_inside (place_of v.place.items)
  pub kind_is : option_map kind_view f.kind ≡ kind_of f.profile (object v.schema.now)
  pub presence_is : f.asks_presence ≡ asks_presence f.profile (place_of v.place.items) (option_map (λ m. object m.now) v.outer)

abbrev pub IsOutsideReason : Subschema → List ℕ → Reason → Type 0
IsOutsideReason v k c =
    (is_inside (place_of v.place.items) ≡ true) × ((is_branch_reason c k ≡ true) ⊎ ((is_type_reason c k ≡ true) × (IsTrue v.in_pattern → ⊥)))
