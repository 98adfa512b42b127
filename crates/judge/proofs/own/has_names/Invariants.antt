use Rattle.std.proofs.Common.{◌≡◌, drop}
use Rattle.jtree.specs.View.{items_of}
use Rattle.judge.specs.Keywords.{has_members, texts_of}
use Rattle.judge.proofs.own.has_names.Given as goal

abbrev pub invariant-loop-name : goal.invariant-loop-name
invariant-loop-name l = has_members l.members (texts_of (items_of (drop l.name-index l.name-items))) ≡ has_members l.members (texts_of l.names)
