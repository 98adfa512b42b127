use Rattle.std.proofs.Common.{◌≡◌, drop}
use Rattle.schema.specs.Nodes.View.{fields_of}
use Rattle.stored.specs.Internal.ValidByLevel.{has_required}
use Rattle.stored.proofs.validity.has_required.Given as goal

-- no required field is absent exactly where none of those that are left is
abbrev pub invariant-loop-field : goal.invariant-loop-field
invariant-loop-field l = has_required (fields_of (drop l.field-index l.field-items)) l.members ≡ has_required l.fields l.members
