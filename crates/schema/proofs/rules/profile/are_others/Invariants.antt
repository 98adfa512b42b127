use Rattle.std.proofs.Common.{◌≡◌, drop}
use Rattle.std.specs.Prelude.{not}
use Rattle.jtree.specs.View.{items_of}
use Rattle.schema.specs.Internal.KindView.{is_accepted}
use Rattle.schema.specs.Rules.Keywords.{any_item}
use Rattle.schema.proofs.rules.profile.are_others.Given as goal

-- a value is not accepted exactly where one of those that are left is not
abbrev pub invariant-loop-value : goal.invariant-loop-value
invariant-loop-value l = any_item (λ d. not (is_accepted l.kind d)) (items_of (drop l.value-index l.values)) ≡ any_item (λ d. not (is_accepted l.kind d)) (items_of l.values)
