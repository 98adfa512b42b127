use Rattle.std.proofs.Common.{◌≡◌, drop}
use Rattle.jtree.specs.View.{items_of}
use Rattle.judge.specs.Keywords.{agree, texts_of}
use Rattle.judge.proofs.repetition.agree_on_all.Given as goal

abbrev pub invariant-loop-key : goal.invariant-loop-key
invariant-loop-key l = agree (texts_of (items_of (drop l.key-index l.key-items))) l.left l.right ≡ agree (texts_of l.keys) l.left l.right
