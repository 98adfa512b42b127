use Rattle.std.proofs.Common.{◌≡◌, drop}
use Rattle.schema.specs.Nodes.View.{fields_of}
use Rattle.explain.specs.Internal.ListedByLevel.{progress, added, below_fields}
use Rattle.explain.proofs.walk.+list.Given as goal

-- with the fields that are left, all is listed
abbrev pub invariant-list_fields-loop-field : goal.invariant-list_fields-loop-field
invariant-list_fields-loop-field l = added (progress l.walk) (below_fields (fields_of (drop l.field-index l.field-items))) ≡ added (progress l.initial.walk) (below_fields l.fields)
