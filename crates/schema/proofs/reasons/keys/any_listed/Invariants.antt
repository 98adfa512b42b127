use Rattle.std.proofs.Common.{◌≡◌, drop}
use Rattle.jtree.specs.Data.{object}
use Rattle.jtree.specs.View.{items_of}
use Rattle.schema.specs.Rules.Keywords.{texts_of}
use Rattle.schema.specs.Rules.Reasons.{any_text, is_key_reason}
use Rattle.schema.proofs.reasons.keys.any_listed.Given as goal

-- a key has the reason exactly where one of those that are left has
abbrev pub invariant-loop-key : goal.invariant-loop-key
invariant-loop-key l =
    any_text (is_key_reason l.profile l.reason (object l.items)) (texts_of (items_of (drop l.key-index l.keys)))
    ≡ any_text (is_key_reason l.profile l.reason (object l.items)) (texts_of (items_of l.keys))
