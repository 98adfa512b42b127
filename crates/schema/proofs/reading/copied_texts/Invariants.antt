use Rattle.std.proofs.Common.{◌≡◌, ◌++◌, drop}
use Rattle.jtree.specs.View.{items_of}
use Rattle.schema.specs.Rules.Keywords.{texts_of}
use Rattle.schema.proofs.reading.copied_texts.Given as goal

-- the texts so far with those of what is left are those of the whole
abbrev pub invariant-loop-item : goal.invariant-loop-item
invariant-loop-item l = l.texts.items ++ texts_of (items_of (drop l.item-index l.item-items)) ≡ texts_of (items_of l.item-items)
