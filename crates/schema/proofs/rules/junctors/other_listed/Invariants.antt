use Rattle.std.proofs.Common.{◌≡◌, drop}
use Rattle.std.specs.Prelude.{map}
use Rattle.jtree.specs.View.{items_of}
use Rattle.schema.specs.Internal.Named.{other_of}
use Rattle.schema.specs.Rules.Keywords.{texts_of}
use Rattle.schema.proofs.rules.junctors.other_listed.Given as goal

-- the first that is not known is the first of those that are left
abbrev pub invariant-loop-name : goal.invariant-loop-name
invariant-loop-name l = other_of (map (λ w. w.now) l.known) (texts_of (items_of (drop l.name-index l.names))) ≡ other_of (map (λ w. w.now) l.known) (texts_of (items_of l.names))
