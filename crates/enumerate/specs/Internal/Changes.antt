-- Where a tree differs from the one before it.
use Rattle.std.specs.Prelude.{◌≡◌, ◌<◌, ℕ}
use Rattle.jtree.specs.Data.{Data}
use Rattle.jtree.specs.Last.{with_part}
use Rattle.jtree.specs.Nodes.{node_count}
use Rattle.enumerate.specs.declared.walk.NextParts.{NextParts}
use Rattle.enumerate.specs.declared.walk.NextParts.TheVariants.{Made, Last}

-- in the part n levels down, by the last item or member of each level, and nowhere else
pub record DiffersAt (n : ℕ) (old new : Data) : Type 0 where
  pub few : n < node_count old
  pub part : Data
  pub is : with_part n new part ≡ old

-- as many levels down as is answered
abbrev pub DiffersTo : Data → NextParts → Data → Type 0
DiffersTo old (Made n) new = DiffersAt n old new
DiffersTo old (Last m) new = Unit {0}

-- the same of a part after which others of so many nodes were removed: where there were some, all may differ
abbrev pub DiffersAfter : ℕ → Data → NextParts → Data → Type 0
DiffersAfter room old (Made n) new = (room ≡ 0 → DiffersAt n old new) × ((room ≡ 0 → ⊥) → n ≡ 0)
DiffersAfter room old (Last m) new = Unit {0}
