-- For private contracts: the version of a name.
use Rattle.std.specs.Prelude.{ℕ, List, Option, Some, None}
use Rattle.jtree.specs.Data.{Data, Items}
use Rattle.schema.specs.Document.Crd.{IsVersion}

-- the version of this name, or none
abbrev pub IsSelected : Items → List ℕ → Option Data → Type 0
IsSelected versions s None = (v : Data) → IsVersion versions s v → ⊥
IsSelected versions s (Some v) = IsVersion versions s v
