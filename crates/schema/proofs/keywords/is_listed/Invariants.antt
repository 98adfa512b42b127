use Rattle.std.proofs.Common.{◌≡◌, drop}
use Rattle.jtree.specs.View.{items_of}
use Rattle.schema.specs.Document.Texts.{is_among}
use Rattle.schema.specs.Rules.Keywords.{texts_of}
use Rattle.schema.proofs.keywords.is_listed.Given as goal

-- the text is among those that are left exactly where it is among all
abbrev pub invariant-loop-tree : goal.invariant-loop-tree
invariant-loop-tree l = is_among l.text (texts_of (items_of (drop l.tree-index l.trees))) ≡ is_among l.text (texts_of (items_of l.trees))
