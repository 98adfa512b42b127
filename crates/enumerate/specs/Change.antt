-- Where a sample differs from the one before it, and in nothing else: in its last node, with the last nodes of both and how many levels
-- down they are, or in the part that is so many levels down by the last item or member (this project's own).
use Rattle.std.specs.Prelude.{◌≡◌, ◌-◌, ◌^◌, min}
use Rattle.jtree.specs.Data.{Data}
use Rattle.jtree.specs.Last.{last_depth, last_of, with_last, with_part}
use Rattle.jtree.specs.View.{data_of}
use Rattle.enumerate.specs.declared.taker.Change.{Change}
use Rattle.enumerate.specs.declared.taker.Change.TheVariants.{Node, Part}

-- from the old tree to the new one
abbrev pub Changes : Change → Data → Data → Type 0
Changes (Node r) old new = (with_last new (data_of r.before.now) ≡ old) × (last_of new ≡ data_of r.node.now) × (r.depth ≡ min (last_depth new) (2 ^ 64 - 1))
Changes (Part n) old new = (v : Data) × (with_part n new v ≡ old)
