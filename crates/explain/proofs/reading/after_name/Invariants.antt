use Rattle.std.proofs.Common.{◌≡◌, ◌∷◌, ◌++◌, flat_map, take}
use Rattle.explain.specs.Paths.PathText.{escaped}
use Rattle.explain.proofs.reading.after_name.Given as goal

-- the letters so far are read
abbrev pub invariant-loop-letter : goal.invariant-loop-letter
invariant-loop-letter l = l.text ≡ (47 ∷ flat_map escaped (take l.letter-index l.name)) ++ l.rest
