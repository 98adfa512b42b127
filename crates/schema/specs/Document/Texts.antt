-- Lists of texts.
use Rattle.std.specs.Prelude.{ℕ, List, [], ◌∷◌, Bool, false, ◌||◌}
use Rattle.std.specs.Str.{bytes_eq}

-- the text is one of them
abbrev pub is_among : List ℕ → List (List ℕ) → Bool
is_among k [] = false
is_among k (w ∷ ws) = bytes_eq k w || is_among k ws
