use Rattle.std.proofs.Common.{take}
use Rattle.std.specs.Prelude.{map}
use Rattle.schema.specs.Nodes.View.{fields_of}
use Rattle.schema.specs.Rules.Breaks.{reported}
use Rattle.stored.specs.Internal.DefaultList.{defaults_in_fields, AreAdded}
use Rattle.stored.proofs.defaults.+defaults.Given as goal

-- those of the fields so far are added
abbrev pub invariant-find_bad_fields-loop-field : goal.invariant-find_bad_fields-loop-field
invariant-find_bad_fields-loop-field l = AreAdded l.pointer (defaults_in_fields (fields_of (take l.field-index l.field-items))) (map reported l.initial.found.items) (map reported l.found.items)
