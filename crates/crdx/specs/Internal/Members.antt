-- Members of an object with others in front.
use Rattle.std.specs.Prelude.{ℕ, List, Option, Some, None}
use Rattle.jtree.specs.Data.{Data, Members, member}

-- the members with this, or nothing, in front
abbrev pub in_front : List ℕ → Option Data → Members → Members
in_front k None ms = ms
in_front k (Some d) ms = member k d ms
