-- What is written for samples: the compact JSON of each, in its envelope where there is one, and a newline (this project's own).
use Rattle.std.specs.Prelude.{ℕ, List, [], ◌∷◌, ◌++◌, Option, Some, None, flat_map}
use Rattle.jtree.specs.Data.{Data}
use Rattle.jtree.specs.Text.{compact}
use Rattle.crdx.specs.Output.Envelope.{in_envelope}
use Rattle.crdx.specs.declared.walk.line.Envelope.{Envelope}

abbrev pub newline : ℕ
newline = 10

abbrev pub printed : Option Envelope → Data → Data
printed None v = v
printed (Some e) v = in_envelope e v

abbrev pub line : Option Envelope → Data → List ℕ
line e v = compact (printed e v) ++ newline ∷ []

abbrev pub lines : Option Envelope → List Data → List ℕ
lines e items = flat_map (line e) items
