use Rattle.std.proofs.Common.{◌≢◌, ℕ, ◌<◌, get_or}
use Rattle.explain.specs.declared.field.Field.{Field}
use Rattle.explain.proofs.listing.Listing.field.Given as goal

-- the fields so far have other paths
abbrev pub invariant-loop-field : goal.invariant-loop-field
invariant-loop-field l = (k : ℕ) (d : Field) → k < l.field-index → (get_or l.field-items k d).path ≢ l.path
